use Rattle.std.proofs.Common.{◌≡◌, take}
use Rattle.store_shown.specs.Steps.{digests_of}
use Rattle.store_shown.proofs.making.digests_in.Given as goal

abbrev pub invariant-loop-row : goal.invariant-loop-row
invariant-loop-row l = l.digests.items ≡ digests_of (take l.row-index l.rows)
