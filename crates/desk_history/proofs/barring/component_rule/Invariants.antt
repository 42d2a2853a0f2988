use Rattle.std.proofs.Common.{◌≡◌, drop}
use Rattle.desk_history.specs.Impact.{component_rule}
use Rattle.desk_history.proofs.barring.component_rule.Given as goal

abbrev pub invariant-loop-component : goal.invariant-loop-component
invariant-loop-component g l =
    component_rule (g.S.Standing.standing l.lists) (drop l.component-index l.components)
    ≡ component_rule (g.S.Standing.standing l.lists) l.components
