-- Computed by the definitions.
use Rattle.std.specs.Prelude.{refl}
use Rattle.std.specs.Fmt.{digits}
use Rattle.hex.specs.Hex.{encode_with}
use Rattle.desk_history.specs.Worked.Imports.{AnswersImports, KeepsImports, TablesImports}
use Rattle.desk_history.proofs.worked.imports_are_answered.Goals as goal

answers_computed : AnswersImports
unfolding digits encode_with
answers_computed = (refl, refl)

pub returns-clause-answers : goal.returns-clause-answers
returns-clause-answers c = answers_computed

history_computed : KeepsImports
unfolding digits encode_with
history_computed = (refl, refl)

pub returns-clause-history : goal.returns-clause-history
returns-clause-history c = history_computed

rows_computed : TablesImports
unfolding digits encode_with
rows_computed = (refl, refl, refl, refl, refl)

pub returns-clause-rows : goal.returns-clause-rows
returns-clause-rows c = rows_computed
