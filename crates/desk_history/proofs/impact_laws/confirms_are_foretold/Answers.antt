use Rattle.desk_history.proofs.ForetoldLemmas as lemmas
use Rattle.desk_history.proofs.impact_laws.confirms_are_foretold.Goals as goal

pub returns : goal.returns
returns c = lemmas.confirms_are_foretold
