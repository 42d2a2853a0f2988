use Rattle.store_impacts.proofs.BroughtLemmas.{brings_images}
use Rattle.store_impacts.proofs.laws.images_are_brought.Goals as goal

pub returns : goal.returns
returns c = brings_images
