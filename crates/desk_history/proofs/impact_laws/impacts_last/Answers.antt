use Rattle.desk_history.proofs.LastingLemmas as lemmas
use Rattle.desk_history.proofs.impact_laws.impacts_last.Goals as goal

pub returns : goal.returns
returns c = lemmas.impacts_last
