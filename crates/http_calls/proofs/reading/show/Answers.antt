use Rattle.http_calls.proofs.AnswerLemmas.{serves_shown, shut_refusal, shut_shown}
use Rattle.http_calls.proofs.reading.show.Goals as goal

pub returns-in-Ok-clause-served : goal.returns-in-Ok-clause-served
returns-in-Ok-clause-served g c clean owner cs was =
    serves_shown (g.D.AnswersCalls.shows c.read.new.self owner) (g.D.AnswersCalls.failed c.read.new.self) owner cs c.args.person c.args.reading c.in-Ok.shown
    (c.in-Ok.ensures.given clean owner cs was) (c.in-Ok.ensures.same clean (λ e. cc) owner cs was)

pub returns-in-Ok-clause-closed : goal.returns-in-Ok-clause-closed
returns-in-Ok-clause-closed g c was =
    let shut = c.in-Ok.ensures.fails.closed was in
    (shut_shown c.args.person c.args.reading c.in-Ok.shown shut.0, shut.1)

pub returns-in-Err-clause-closed : goal.returns-in-Err-clause-closed
returns-in-Err-clause-closed g c was =
    let shut = c.in-Err.ensures.fails.closed was in
    (shut_refusal c.args.person c.args.reading c.in-Err.refusal c.refuse.result c.refuse.ensures shut.0, shut.1)
