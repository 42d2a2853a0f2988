use Rattle.std.proofs.Common.{◌≡◌, ℕ, List, take}
use Rattle.desk_history.specs.Calls.{is_among}
use Rattle.desk_rules.proofs.decisions.imports.set_of.Given as goal

abbrev pub invariant-loop-digest : goal.invariant-loop-digest
invariant-loop-digest l = (q : List ℕ) → is_among l.known.keys q ≡ is_among (take l.digest-index l.digests) q
