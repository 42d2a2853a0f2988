use Rattle.desk_history.proofs.RunLemmas as lemmas
use Rattle.desk_history.proofs.laws.runs_go_on.Goals as goal

pub returns : goal.returns
returns c = lemmas.runs_go_on
