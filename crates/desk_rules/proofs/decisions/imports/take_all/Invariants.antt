use Rattle.std.proofs.Common.{◌≡◌, ◌≤◌, ℕ, List, map, take}
use Rattle.std.specs.Prelude.{IsTrue, reverse}
use Rattle.sbat.specs.declared.component.Component.{Component}
use Rattle.desk_history.specs.Calls.{is_among}
use Rattle.desk_history.specs.Level.{greatest}
use Rattle.desk_rules.specs.ImportSteps.{HasTaken}
use Rattle.desk_rules.specs.Views.{generation_in}
use Rattle.desk_rules.proofs.decisions.imports.take_all.Given as goal

abbrev pub invariant-loop-component : goal.invariant-loop-component
invariant-loop-component l = record {
  counted : l.so_far.names ≤ l.component-index;
  taken : (old : List Component) → ((q : List ℕ) → IsTrue (is_among (map (λ x. x.name) l.components) q) → generation_in l.rows q ≡ greatest old q)
      → HasTaken l.components old (reverse (take l.component-index l.components)) l.so_far;
}
