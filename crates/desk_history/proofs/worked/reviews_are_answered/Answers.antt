-- Computed by the definitions.
use Rattle.std.specs.Prelude.{refl}
use Rattle.std.specs.Fmt.{digits}
use Rattle.hex.specs.Hex.{encode_with}
use Rattle.desk_history.specs.Worked.Reviews.{AnswersReviews, KeepsReviews, TablesReviews}
use Rattle.desk_history.proofs.worked.reviews_are_answered.Goals as goal

answers_computed : AnswersReviews
unfolding digits encode_with
answers_computed = refl

pub returns-clause-answers : goal.returns-clause-answers
returns-clause-answers c = answers_computed

history_computed : KeepsReviews
unfolding digits encode_with
history_computed = refl

pub returns-clause-history : goal.returns-clause-history
returns-clause-history c = history_computed

rows_computed : TablesReviews
unfolding digits encode_with
rows_computed = (refl, refl, refl, refl, refl, refl, refl)

pub returns-clause-rows : goal.returns-clause-rows
returns-clause-rows c = rows_computed
