use Rattle.std.proofs.Common.{◌≡◌, ◌++◌, take}
use Rattle.desk_rules.specs.DecisionSteps.{revocation_writes}
use Rattle.desk_rules.proofs.decisions.imports.put_revoked.Given as goal

abbrev pub invariant-loop-digest : goal.invariant-loop-digest
invariant-loop-digest l = l.writes.items ≡ l.initial.writes.items ++ revocation_writes l.kind (take l.digest-index l.digests)
