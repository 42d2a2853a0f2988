use Rattle.std.proofs.Common.{◌≡◌, drop}
use Rattle.std.specs.List.{list_any}
use Rattle.desk_history.specs.Verdicts.{is_below}
use Rattle.desk_history.proofs.verdicts.has_below.Given as goal

abbrev pub invariant-loop-component : goal.invariant-loop-component
invariant-loop-component g l =
    list_any (is_below (g.S.Standing.standing l.lists)) (drop l.component-index l.components)
    ≡ list_any (is_below (g.S.Standing.standing l.lists)) l.components
