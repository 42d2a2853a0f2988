use Rattle.http_exchange.proofs.serving.answer_due.Goals as goal

pub returns-in-Ok-clause-served : goal.returns-in-Ok-clause-served
returns-in-Ok-clause-served g c = λ clean owner cs shown. rw c.in-Ok.is (c.answer.ensures.served clean owner cs shown)
