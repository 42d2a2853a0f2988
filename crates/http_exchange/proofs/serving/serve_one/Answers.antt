use Rattle.std.proofs.Common.{rules}
use Rattle.http_exchange.proofs.GivenLemmas.{fault_answers, given_is_told, nothing_answers}
use Rattle.http_exchange.proofs.SendLemmas.{answered_is_told, response_is_told, unwritten_is_told}
use Rattle.http_exchange.proofs.serving.serve_one.Goals as goal

pub returns-in-Ok-Some-clause-serves : goal.returns-in-Ok-Some-clause-serves
returns-in-Ok-Some-clause-serves g c =
    let input = g.R.Read.remaining c.args.reader.now in
    let held = g.W.Write.contents c.args.writer.now in
    let holds = g.W.Write.contents c.send_answer.new.writer in
    let old = g.D.AnswersCalls.shows c.args.desk.now in
    let new = g.D.AnswersCalls.shows c.answer_input.new.desk in
    let failed = g.D.AnswersCalls.failed c.answer_input.new.desk in
    let served = rw c.in-Ok-Some.field-0-is at c.in-Ok-Some.ensures.answered in
    let given = rw c.in-Ok-Some.field-0-is at c.in-Ok-Some.ensures.gives in
    record {
      answered = λ clean.
          answered_is_told input held holds old new failed c.in-Ok-Some.answer c.send_answer.result (served clean) c.send_answer.ensures;
      nothing = search rules;
      unread = search rules;
      unwritten = λ clean.
          unwritten_is_told input held holds old new failed c.in-Ok-Some.answer c.send_answer.result (served clean) c.send_answer.ensures;
      gives = λ clean.
          given_is_told input held holds old new failed (g.D.AnswersCalls.leaves c.answer_input.new.desk) c.in-Ok-Some.answer c.send_answer.result (given clean) c.send_answer.ensures;
      rests = g.met.D.AnswersCalls.rests c.answer_input.new.desk;
      some = search rules;
      response = response_is_told held holds c.in-Ok-Some.answer c.send_answer.result c.send_answer.ensures;
      poisons = search rules;
      closed = search rules;
      before = search rules;
    }

pub returns-in-Ok-None-clause-serves : goal.returns-in-Ok-None-clause-serves
returns-in-Ok-None-clause-serves g c =
    let served = rw c.in-Ok-None.field-0-is at c.in-Ok-None.ensures.answered in
    nothing_answers g.D.AnswersCalls.shows g.D.AnswersCalls.clean g.D.AnswersCalls.failed g.D.AnswersCalls.leaves (g.R.Read.remaining c.args.reader.now)
    (g.W.Write.contents c.args.writer.now) c.args.desk.now c.answer_input.new.desk (λ was. (c.in-Ok-None.ensures.closed was).0) c.in-Ok-None.ensures.before
    (g.met.D.AnswersCalls.rests c.answer_input.new.desk) served

pub returns-in-Err-clause-serves : goal.returns-in-Err-clause-serves
returns-in-Err-clause-serves g c =
    fault_answers g.D.AnswersCalls.shows g.D.AnswersCalls.clean g.D.AnswersCalls.failed g.D.AnswersCalls.leaves (g.R.Read.remaining c.args.reader.now)
    (g.W.Write.contents c.args.writer.now) c.args.desk.now c.answer_input.new.desk c.in-Err.ensures.unread (λ was. (c.in-Err.ensures.closed was).0) c.in-Err.ensures.before
    (g.met.D.AnswersCalls.rests c.answer_input.new.desk) c.in-Err.fault c.in-Err.ensures.fault
