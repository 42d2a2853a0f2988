use Rattle.desk_history.proofs.LifeLemmas as lemmas
use Rattle.desk_history.proofs.laws.series_are_legal.Goals as goal

pub returns : goal.returns
returns c = lemmas.series_are_legal
