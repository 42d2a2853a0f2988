use Rattle.desk_history.proofs.SeriesLemmas as lemmas
use Rattle.desk_history.proofs.form_laws.answered_calls_stand.Goals as goal

pub returns : goal.returns
returns c = lemmas.answered_calls_stand
