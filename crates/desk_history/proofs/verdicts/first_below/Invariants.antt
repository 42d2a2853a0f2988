use Rattle.std.proofs.Common.{◌≡◌, drop}
use Rattle.desk_history.specs.Verdicts.{first_below}
use Rattle.desk_history.proofs.verdicts.first_below.Given as goal

abbrev pub invariant-loop-place : goal.invariant-loop-place
invariant-loop-place g l =
    first_below (g.S.Standing.standing l.lists) l.place (drop l.place l.components)
    ≡ first_below (g.S.Standing.standing l.lists) 0 l.components
