use Rattle.desk_history.proofs.RunLemmas as lemmas
use Rattle.desk_history.proofs.laws.legal_histories_are_runs.Goals as goal

pub returns : goal.returns
returns c = lemmas.legal_histories_are_runs
