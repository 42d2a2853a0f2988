use Rattle.http_net.specs.Faults.{IsAnsweringRefusal}
use Rattle.cli_opening.proofs.EndingLemmas.{rows_apart}
use Rattle.cli_requests.proofs.LivingLemmas.{request_makes_lives}
use Rattle.cli_requests.proofs.ServingLemmas.{answering_apart}
use Rattle.cli_requests.proofs.requests.OneRequestWork.work.Goals as goal

pub returns-clause-did : goal.returns-clause-did
returns-clause-did g c = (
  c.answer_one-work.ensures.answered,
  request_makes_lives g.S.Store c.args.desk c.answer_one-work.new.desk (g.R.Read.remaining c.args.self.reader) (g.W.Write.contents c.args.output.now)
      (g.W.Write.contents c.answer_one-work.new.writer) c.answer_one-work.result c.answer_one-work.ensures.answered,
)

pub returns-clause-left : goal.returns-clause-left
returns-clause-left g c = c.answer_one-work.ensures.done

pub returns-clause-named : goal.returns-clause-named
returns-clause-named g c = c.answer_one-work.ensures.named

pub returns-clause-apart : goal.returns-clause-apart
returns-clause-apart g c = rows_apart IsAnsweringRefusal answering_apart c.answer_one-work.result c.answer_one-work.ensures.named
