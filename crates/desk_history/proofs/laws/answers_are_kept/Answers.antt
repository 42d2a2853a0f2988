use Rattle.desk_history.proofs.LifeLemmas as lemmas
use Rattle.desk_history.proofs.laws.answers_are_kept.Goals as goal

pub returns : goal.returns
returns c = lemmas.answers_are_kept
