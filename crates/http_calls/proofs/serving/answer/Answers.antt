use Rattle.std.proofs.Common.{sym, subst, ◌∙◌}
use Rattle.http_calls.specs.Tags.{is_mismatch}
use Rattle.http_calls.proofs.MatchLemmas.{serves_task, shut_task}
use Rattle.http_calls.proofs.serving.answer.Goals as goal

pub returns-clause-served : goal.returns-clause-served
returns-clause-served g c clean owner cs was =
    let before = c.answer_task.ensures.before clean in
    serves_task (g.D.AnswersCalls.shows c.answer_task.new.desk owner) (g.D.AnswersCalls.failed c.answer_task.new.desk) owner cs c.args.call.person c.args.call.task (is_mismatch cs c.args.call)
    c.answer_task.result (sym c.if-is_other.false ∙ c.in-Ok.ensures.given before owner cs was)
    (c.answer_task.ensures.served clean owner cs (c.in-Ok.ensures.same before (λ e. cc) owner cs was))

pub returns-clause-closed : goal.returns-clause-closed
returns-clause-closed g c was =
    let mine = c.in-Ok.ensures.closed was in
    let shut = c.answer_task.ensures.closed (subst g.D.AnswersCalls.failed (sym mine.0) was) in (
      shut_task c.args.call.person c.args.call.task (λ cs. is_mismatch cs c.args.call) c.answer_task.result (λ cs. sym c.if-is_other.false ∙ mine.1 cs) shut.0,
      shut.1 ∙ mine.0,
    )

pub returns-clause-gives : goal.returns-clause-gives
returns-clause-gives g c clean owner cs was =
    c.answer_task.ensures.gives clean owner cs (c.in-Ok.ensures.same (c.answer_task.ensures.before clean) (λ e. cc) owner cs was)
