use Rattle.std.proofs.Common.{refl}
use Rattle.http_requests.specs.Paths.{with_proposals}
use Rattle.http_requests.proofs.routing.add_proposals.Goals as goal

pub returns : goal.returns
unfolding with_proposals
returns c = rw (c.in_ok-add_command-3.ensures, c.in_ok-add_command-2.ensures, c.in_ok-add_command.ensures, c.in_ok-add_get-3.ensures, c.in_ok-add_get-2.ensures, c.in_ok-add_get.ensures) refl
