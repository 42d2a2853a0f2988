use Rattle.http_exchange.specs.Asked.{HasByte, LeavesBody}
use Rattle.http_exchange.proofs.ClosedLemmas.{closed_head}
use Rattle.http_exchange.proofs.InputLemmas.{head_is_asked}
use Rattle.http_exchange.proofs.StrangerLemmas.{head_has_byte, leaves_head, unread_leaves}
use Rattle.http_exchange.proofs.reading.read_due.Goals as goal

pub returns-in-Ok-clause-asked : goal.returns-in-Ok-clause-asked
returns-in-Ok-clause-asked g c = λ clean.
    head_is_asked (g.R.Read.remaining c.args.reader.now) (g.R.Read.remaining c.read_head.new.reader) c.in-Ok-Head.head c.in-Ok.due (g.D.AnswersCalls.shows c.args.desk.now)
    (rw c.in-Ok-Head.field-0-is at c.in-Ok-Head.ensures.found)
    (λ h q reads. c.in-Ok.ensures.asked h q reads clean)

pub returns-in-Ok-clause-closed : goal.returns-in-Ok-clause-closed
returns-in-Ok-clause-closed g c was =
    let shut = c.in-Ok.ensures.closed was in (
      shut.0,
      (
        shut.1.0,
        closed_head (g.R.Read.remaining c.args.reader.now) (g.R.Read.remaining c.read_head.new.reader) c.in-Ok-Head.head c.in-Ok.due
            (rw c.in-Ok-Head.field-0-is at c.in-Ok-Head.ensures.found)
            shut.1,
      ),
    )

pub returns-in-Ok-clause-stranger : goal.returns-in-Ok-clause-stranger
returns-in-Ok-clause-stranger g c = λ clean.
    leaves_head (g.R.Read.remaining c.args.reader.now) (g.R.Read.remaining c.read_head.new.reader) (g.R.Read.remaining c.ask_by_head-due.new.reader)
    c.in-Ok-Head.head (g.D.AnswersCalls.shows c.args.desk.now) (rw c.in-Ok-Head.field-0-is at c.in-Ok-Head.ensures.found)
    (λ h q reads. c.in-Ok.ensures.stranger h q reads clean)

pub returns-in-Err-due-clause-stranger : goal.returns-in-Err-due-clause-stranger
returns-in-Err-due-clause-stranger g c = λ clean.
    unread_leaves c.in-Err-due.unread
    (LeavesBody (g.D.AnswersCalls.shows c.args.desk.now) (g.R.Read.remaining c.args.reader.now) (g.R.Read.remaining c.ask_by_head-due.new.reader))
    (leaves_head (g.R.Read.remaining c.args.reader.now) (g.R.Read.remaining c.read_head.new.reader) (g.R.Read.remaining c.ask_by_head-due.new.reader)
    c.in-Ok-Head.head (g.D.AnswersCalls.shows c.args.desk.now) (rw c.in-Ok-Head.field-0-is at c.in-Ok-Head.ensures.found)
    (λ h q reads. c.in-Err-due.ensures.stranger h q reads clean))

pub returns-in-Ok-clause-some : goal.returns-in-Ok-clause-some
returns-in-Ok-clause-some g c =
    head_has_byte (g.R.Read.remaining c.args.reader.now) (g.R.Read.remaining c.read_head.new.reader) c.in-Ok-Head.head
    (rw c.in-Ok-Head.field-0-is at c.in-Ok-Head.ensures.found)

pub returns-in-Err-due-clause-some : goal.returns-in-Err-due-clause-some
returns-in-Err-due-clause-some g c =
    unread_leaves c.in-Err-due.unread (HasByte (g.R.Read.remaining c.args.reader.now))
    (head_has_byte (g.R.Read.remaining c.args.reader.now) (g.R.Read.remaining c.read_head.new.reader) c.in-Ok-Head.head
    (rw c.in-Ok-Head.field-0-is at c.in-Ok-Head.ensures.found))
