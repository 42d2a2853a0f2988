use Rattle.std.proofs.Common.{refl}
use Rattle.http_requests.specs.Paths.{with_images}
use Rattle.http_requests.proofs.routing.add_images.Goals as goal

pub returns : goal.returns
unfolding with_images
returns c = rw (c.in_ok-add_image-2.ensures, c.in_ok-add_image.ensures) refl
