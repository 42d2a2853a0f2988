use Rattle.desk_history.proofs.ImageLemmas as lemmas
use Rattle.desk_history.proofs.impact_laws.images_have_requests.Goals as goal

pub returns : goal.returns
returns c = lemmas.images_have_requests
