use Rattle.std.proofs.Common.{refl}
use Rattle.http_requests.specs.heads.Fields.{parts_of}
use Rattle.http_requests.specs.CheckedHead.{shown, wanted_of}
use Rattle.http_exchange.proofs.ClosedLemmas.{closed_ask, closed_refuse}
use Rattle.http_exchange.proofs.InputLemmas.{refused_is_due, wanted_is_due}
use Rattle.http_exchange.proofs.reading.ask_by_head.Goals as goal

pub returns-in-Ok-clause-asked : goal.returns-in-Ok-clause-asked
returns-in-Ok-clause-asked g c = λ h q reads clean.
    wanted_is_due (wanted_of (parts_of h)) (shown c.in-Ok.wanted) c.ask_as.result (g.R.Read.remaining c.args.reader.now) (g.D.AnswersCalls.shows c.args.desk.now)
    (c.in-Ok.ensures h q reads) (c.ask_as.ensures.asked clean)

pub returns-in-Err-clause-asked : goal.returns-in-Err-clause-asked
returns-in-Err-clause-asked g c = λ h q reads clean.
    refused_is_due (wanted_of (parts_of h)) c.in-Err.fault c.refusal_of_head.result (g.R.Read.remaining c.args.reader.now) (g.D.AnswersCalls.shows c.args.desk.now)
    (c.in-Err.ensures h q reads) c.refusal_of_head.ensures.refused

pub returns-in-Ok-clause-closed : goal.returns-in-Ok-clause-closed
returns-in-Ok-clause-closed g c was =
    let shut = c.ask_as.ensures.closed was in
    (shut.0, closed_ask c.args.head.now (shown c.in-Ok.wanted) c.ask_as.result c.in-Ok.ensures shut.1)

pub returns-in-Err-clause-closed : goal.returns-in-Err-clause-closed
returns-in-Err-clause-closed g c was =
    (refl, closed_refuse c.args.head.now c.in-Err.fault c.refusal_of_head.result c.refusal_of_head.ensures.refused c.in-Err.ensures)
