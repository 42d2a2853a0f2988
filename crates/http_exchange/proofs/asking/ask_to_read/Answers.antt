use Rattle.std.proofs.Common.{◌≡◌, refl}
use Rattle.http_requests.specs.Asked.{read_at}
use Rattle.http_requests.specs.CheckedHead.{shown}
use Rattle.http_exchange.specs.Asked.{of_read}
use Rattle.http_exchange.proofs.AskLemmas.{fault_is_due}
use Rattle.http_exchange.proofs.asking.ask_to_read.Goals as goal

pub returns-in-Err-clause-asked : goal.returns-in-Err-clause-asked
returns-in-Err-clause-asked c =
    let given = read_at c.args.route (shown c.args.wanted.now) in
    fault_is_due given c.in-Err.fault c.refuse.result (λ due. due ≡ of_read c.args.person given) c.in-Err.ensures c.refuse.ensures.refused (λ e. rw e refl)
