-- Computed by the definitions.
use Rattle.std.specs.Prelude.{refl}
use Rattle.std.specs.Fmt.{digits}
use Rattle.hex.specs.Hex.{encode_with}
use Rattle.desk_history.specs.Worked.Keys.{AnswersKeys, KeepsKeys}
use Rattle.desk_history.proofs.worked.keys_are_answered.Goals as goal

answers_computed : AnswersKeys
unfolding digits encode_with
answers_computed = refl

pub returns-clause-answers : goal.returns-clause-answers
returns-clause-answers c = answers_computed

history_computed : KeepsKeys
unfolding digits encode_with
history_computed = (refl, refl)

pub returns-clause-history : goal.returns-clause-history
returns-clause-history c = history_computed
