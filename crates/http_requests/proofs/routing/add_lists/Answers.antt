use Rattle.std.proofs.Common.{refl}
use Rattle.http_requests.specs.Paths.{with_lists}
use Rattle.http_requests.proofs.routing.add_lists.Goals as goal

pub returns : goal.returns
unfolding with_lists
returns c = rw (c.in_ok-add_command-4.ensures, c.in_ok-add_get-2.ensures, c.in_ok-add_command-3.ensures, c.in_ok-add_command-2.ensures, c.in_ok-add_command.ensures, c.in_ok-add_get.ensures) refl
