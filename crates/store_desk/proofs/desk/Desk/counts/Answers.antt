use Rattle.std.proofs.lemmas.Result.{IfOk-weaker}
use Rattle.store_desk.proofs.desk.Desk.counts.Goals as goal

pub returns-clause-shown : goal.returns-clause-shown
returns-clause-shown g c clean =
    IfOk-weaker c.answer_question.result _ _ (λ n all owner cs was. c.tables_count_their_history.ensures owner cs n (all owner cs was)) (c.answer_question.ensures.shown clean)
