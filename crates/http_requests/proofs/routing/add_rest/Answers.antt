use Rattle.std.proofs.Common.{refl}
use Rattle.http_requests.specs.Paths.{with_rest}
use Rattle.http_requests.proofs.routing.add_rest.Goals as goal

pub returns : goal.returns
unfolding with_rest
returns c = rw (c.in_ok-add_get.ensures, c.in_ok-add_command-4.ensures, c.in_ok-add_command-3.ensures, c.in_ok-add_command-2.ensures, c.in_ok-add.ensures, c.in_ok-add_command.ensures) refl
