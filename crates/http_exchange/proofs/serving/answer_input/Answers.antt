use Rattle.std.proofs.Common.{◌≡◌, ◌∙◌}
use Rattle.http_exchange.proofs.ClosedLemmas.{closed_due}
use Rattle.http_exchange.proofs.GivenLemmas.{input_is_given}
use Rattle.http_exchange.proofs.TellLemmas.{input_is_served}
use Rattle.http_exchange.proofs.serving.answer_input.Goals as goal

pub returns-in-Ok-Some-clause-answered : goal.returns-in-Ok-Some-clause-answered
returns-in-Ok-Some-clause-answered g c = λ clean.
    let before = c.answer_due.ensures.before clean in
    input_is_served (g.R.Read.remaining c.args.reader.now) (g.D.AnswersCalls.shows c.args.desk.now) (g.D.AnswersCalls.shows c.read_due.new.desk)
    (g.D.AnswersCalls.shows c.answer_due.new.desk) (g.D.AnswersCalls.failed c.answer_due.new.desk) c.in-Ok-Some.due c.answer_due.result
    (rw c.in-Ok-Some.field-0-is at (c.in-Ok-Some.ensures.asked before)) (c.in-Ok-Some.ensures.desk.same before (λ e. cc)) (c.answer_due.ensures.served clean)

pub returns-in-Ok-Some-clause-gives : goal.returns-in-Ok-Some-clause-gives
returns-in-Ok-Some-clause-gives g c = λ clean.
    let before = c.answer_due.ensures.before clean in
    input_is_given (g.R.Read.remaining c.args.reader.now) (g.D.AnswersCalls.shows c.args.desk.now) (g.D.AnswersCalls.shows c.read_due.new.desk)
    (g.D.AnswersCalls.shows c.answer_due.new.desk) (g.D.AnswersCalls.failed c.answer_due.new.desk) (g.D.AnswersCalls.leaves c.answer_due.new.desk)
    c.in-Ok-Some.due c.answer_due.result
    (rw c.in-Ok-Some.field-0-is at (c.in-Ok-Some.ensures.asked before)) (c.in-Ok-Some.ensures.desk.same before (λ e. cc)) (c.answer_due.ensures.gives clean)

pub returns-in-Ok-Some-clause-closed : goal.returns-in-Ok-Some-clause-closed
returns-in-Ok-Some-clause-closed g c was =
    let shut = rw c.in-Ok-Some.field-0-is at (c.in-Ok-Some.ensures.closed was) in
    let told = closed_due (g.R.Read.remaining c.args.reader.now) c.in-Ok-Some.due c.answer_due.result (c.answer_due.new.desk ≡ c.read_due.new.desk) shut.1 c.answer_due.ensures.refused in
    (told.1 ∙ shut.0, told.0)
