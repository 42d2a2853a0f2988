use Rattle.desk_history.proofs.VerdictLemmas as lemmas
use Rattle.desk_history.proofs.laws.allows_exactly.Goals as goal

pub returns : goal.returns
returns c = lemmas.allows_exactly
