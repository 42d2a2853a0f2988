use Rattle.std.proofs.Common.{◌≡◌, ℕ, List, take}
use Rattle.std.specs.Prelude.{reverse}
use Rattle.std.specs.FinMap.{get}
use Rattle.desk_history.specs.Level.{greatest}
use Rattle.desk_rules.proofs.entries.greatest_of.Given as goal

abbrev pub invariant-loop-component : goal.invariant-loop-component
invariant-loop-component l = (q : List ℕ) → get l.level.generations q ≡ greatest (reverse (take l.component-index l.components)) q
