use Rattle.std.proofs.Common.{refl}
use Rattle.http_requests.specs.Paths.{table}
use Rattle.http_requests.proofs.routing.router.Goals as goal

pub returns : goal.returns
unfolding table
returns c = rw (c.in_ok-add_parts.ensures, c.in_ok-add_records.ensures, c.in_ok-add_rest.ensures, c.in_ok-add_lists.ensures, c.in_ok-add_proposals.ensures, c.in_ok-add_images.ensures, c.in_ok-add_requests.ensures, c.new-router.ensures) refl
