use Rattle.std.proofs.Common.{◌≡◌, ◌≤◌, ◌++◌, drop, length, map}
use Rattle.std.specs.Prelude.{reverse}
use Rattle.desk_history.specs.Tables.{placed_from}
use Rattle.desk_history.specs.declared.write.Write.TheVariants as puts
use Rattle.desk_rules.proofs.decisions.submissions.put_components.Given as goal

abbrev pub invariant-loop-place : goal.invariant-loop-place
invariant-loop-place l = record {
  within : l.place ≤ length l.components;
  put : l.writes.items ≡ l.initial.writes.items ++ map (λ row. puts.RequestComponent row) (reverse (placed_from l.request l.place (drop l.place l.components)));
}

abbrev pub decreases-loop-place : goal.decreases-loop-place
decreases-loop-place l = l.place
