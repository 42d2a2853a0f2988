use Rattle.std.proofs.Common.{refl}
use Rattle.http_requests.specs.Paths.{with_parts}
use Rattle.http_requests.proofs.routing.add_parts.Goals as goal

pub returns : goal.returns
unfolding with_parts
returns c = rw (c.in_ok-add_get-5.ensures, c.in_ok-add_get-4.ensures, c.in_ok-add_get-3.ensures, c.in_ok-add_get-2.ensures, c.in_ok-add_get.ensures) refl
