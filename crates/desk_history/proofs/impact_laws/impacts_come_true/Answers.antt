use Rattle.desk_history.proofs.ForetoldLemmas as lemmas
use Rattle.desk_history.proofs.impact_laws.impacts_come_true.Goals as goal

pub returns : goal.returns
returns c = lemmas.impacts_come_true
