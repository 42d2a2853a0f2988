use Rattle.desk_history.proofs.ShownLemmas as lemmas
use Rattle.desk_history.proofs.laws.submitters_see_own.Goals as goal

pub returns : goal.returns
returns c = lemmas.submitters_see_own
