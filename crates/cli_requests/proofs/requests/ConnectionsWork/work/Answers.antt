use Rattle.http_net.specs.Faults.{IsServingRefusal}
use Rattle.cli_opening.proofs.EndingLemmas.{rows_apart}
use Rattle.cli_requests.proofs.LivingLemmas.{turns_make_lives}
use Rattle.cli_requests.proofs.ServingLemmas.{served_apart}
use Rattle.cli_requests.proofs.requests.ConnectionsWork.work.Goals as goal

pub returns-clause-did : goal.returns-clause-did
returns-clause-did g c = (
  c.serve_all-work.ensures.in_turn,
  turns_make_lives g.S.Store c.args.desk c.serve_all-work.new.desk c.args.self.count c.serve_all-work.result c.serve_all-work.ensures.in_turn,
)

pub returns-clause-left : goal.returns-clause-left
returns-clause-left g c = c.serve_all-work.ensures.done

pub returns-clause-named : goal.returns-clause-named
returns-clause-named g c = c.serve_all-work.ensures.named

pub returns-clause-apart : goal.returns-clause-apart
returns-clause-apart g c = rows_apart IsServingRefusal served_apart c.serve_all-work.result c.serve_all-work.ensures.named
