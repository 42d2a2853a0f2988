use Rattle.std.proofs.Common.{refl}
use Rattle.http_requests.specs.Paths.{with_requests}
use Rattle.http_requests.proofs.routing.add_requests.Goals as goal

pub returns : goal.returns
unfolding with_requests
returns c = rw (c.in_ok-add_image.ensures, c.in_ok-add_command-2.ensures, c.in_ok-add_command.ensures, c.in_ok-add_get.ensures, c.in_ok-add.ensures) refl
