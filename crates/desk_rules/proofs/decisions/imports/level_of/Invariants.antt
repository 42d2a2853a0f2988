use Rattle.std.proofs.Common.{◌≡◌, ℕ, List, false, take}
use Rattle.std.specs.FinMap.{get}
use Rattle.desk_history.specs.Level.{is_sbat}
use Rattle.desk_rules.specs.Views.{generation_in}
use Rattle.desk_rules.proofs.decisions.imports.level_of.Given as goal

abbrev pub invariant-loop-row : goal.invariant-loop-row
invariant-loop-row l = (q : List ℕ) → is_sbat q ≡ false → get l.level.generations q ≡ generation_in (take l.row-index l.rows) q
