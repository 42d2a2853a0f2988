use Rattle.std.proofs.Common.{All, take}
use Rattle.desk_types.specs.Commands.{IsDigest}
use Rattle.desk_types.proofs.form_keeping.show_digests.Given as goal

abbrev pub invariant-loop-digest : goal.invariant-loop-digest
invariant-loop-digest l = All IsDigest (take l.digest-index l.digests)
