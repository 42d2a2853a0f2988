-- Computed by the definitions.
use Rattle.std.specs.Prelude.{refl}
use Rattle.std.specs.Fmt.{digits}
use Rattle.hex.specs.Hex.{encode_with}
use Rattle.desk_history.specs.Worked.Returns.{AnswersReturns, BarsReturns, KeepsReturns, SaysReturns, TablesReturns, TakesEither}
use Rattle.desk_history.proofs.worked.returns_are_answered.Goals as goal

answers_computed : AnswersReturns
unfolding digits encode_with
answers_computed = refl

pub returns-clause-answers : goal.returns-clause-answers
returns-clause-answers c = answers_computed

history_computed : KeepsReturns
unfolding digits encode_with
history_computed = (refl, refl)

pub returns-clause-history : goal.returns-clause-history
returns-clause-history c = history_computed

rows_computed : TablesReturns
unfolding digits encode_with
rows_computed = (refl, refl, refl, refl, refl)

pub returns-clause-rows : goal.returns-clause-rows
returns-clause-rows c = rows_computed

verdicts_computed : SaysReturns
unfolding digits encode_with
verdicts_computed = (refl, refl, refl, refl)

pub returns-clause-verdicts : goal.returns-clause-verdicts
returns-clause-verdicts c = verdicts_computed

barred_computed : BarsReturns
unfolding digits encode_with
barred_computed = (refl, refl)

pub returns-clause-barred : goal.returns-clause-barred
returns-clause-barred c = barred_computed

either_computed : TakesEither
unfolding digits encode_with
either_computed = (refl, refl)

pub returns-clause-either : goal.returns-clause-either
returns-clause-either c = either_computed
