use Rattle.std.proofs.Common.{◌≡◌, ◌≤◌, ◌++◌, drop, length, map}
use Rattle.std.specs.Prelude.{reverse}
use Rattle.desk_history.specs.declared.write.Write.TheVariants as puts
use Rattle.desk_rules.specs.DecisionSteps.{carried_rows}
use Rattle.desk_rules.proofs.decisions.submissions.put_certificates.Given as goal

abbrev pub invariant-loop-place : goal.invariant-loop-place
invariant-loop-place l = record {
  within : l.place ≤ length l.carried;
  put : l.writes.items ≡ l.initial.writes.items ++ map (λ row. puts.RequestCertificate row) (reverse (carried_rows l.request (drop l.place l.carried)));
}

abbrev pub decreases-loop-place : goal.decreases-loop-place
decreases-loop-place l = l.place
