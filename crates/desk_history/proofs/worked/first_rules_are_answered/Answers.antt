-- Computed by the definitions.
use Rattle.std.specs.Prelude.{refl}
use Rattle.std.specs.Fmt.{digits}
use Rattle.hex.specs.Hex.{encode_with}
use Rattle.desk_history.specs.Worked.FirstRules.{AnswersFirst, OrdersFirst, TablesFirst}
use Rattle.desk_history.proofs.worked.first_rules_are_answered.Goals as goal

answers_computed : AnswersFirst
unfolding digits encode_with
answers_computed = (refl, refl)

pub returns-clause-answers : goal.returns-clause-answers
returns-clause-answers c = answers_computed

rows_computed : TablesFirst
unfolding digits encode_with
rows_computed = (refl, refl, refl, refl, refl, refl, refl)

pub returns-clause-rows : goal.returns-clause-rows
returns-clause-rows c = rows_computed

order_computed : OrdersFirst
unfolding digits encode_with
order_computed = (refl, refl, refl, refl)

pub returns-clause-order : goal.returns-clause-order
returns-clause-order c = order_computed
