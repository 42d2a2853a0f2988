-- Computed by the definitions.
use Rattle.std.specs.Prelude.{refl}
use Rattle.std.specs.Fmt.{digits}
use Rattle.hex.specs.Hex.{encode_with}
use Rattle.desk_history.specs.Worked.Levels.{AnswersLevels, KeepsLevels, SaysLevels, TablesLevels}
use Rattle.desk_history.proofs.worked.levels_are_answered.Goals as goal

answers_computed : AnswersLevels
unfolding digits encode_with
answers_computed = refl

pub returns-clause-answers : goal.returns-clause-answers
returns-clause-answers c = answers_computed

history_computed : KeepsLevels
unfolding digits encode_with
history_computed = refl

pub returns-clause-history : goal.returns-clause-history
returns-clause-history c = history_computed

says_computed : SaysLevels
unfolding digits encode_with
says_computed = (refl, refl, refl, refl, refl, refl, refl, refl, refl)

pub returns-clause-says : goal.returns-clause-says
returns-clause-says c = says_computed

rows_computed : TablesLevels
unfolding digits encode_with
rows_computed = (refl, refl)

pub returns-clause-rows : goal.returns-clause-rows
returns-clause-rows c = rows_computed
