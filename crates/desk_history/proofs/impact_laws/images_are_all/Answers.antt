use Rattle.desk_history.proofs.ImageLemmas as lemmas
use Rattle.desk_history.proofs.impact_laws.images_are_all.Goals as goal

pub returns : goal.returns
returns c = lemmas.images_are_all
