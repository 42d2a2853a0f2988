use Rattle.std.proofs.Common.{refl}
use Rattle.http_requests.specs.Paths.{with_records}
use Rattle.http_requests.proofs.routing.add_records.Goals as goal

pub returns : goal.returns
unfolding with_records
returns c = rw (c.in_ok-add_get-3.ensures, c.in_ok-add_get-2.ensures, c.in_ok-add_get.ensures) refl
