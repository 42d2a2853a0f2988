use Rattle.desk_history.proofs.SeriesLemmas as lemmas
use Rattle.desk_history.proofs.form_laws.series_leave_histories.Goals as goal

pub returns : goal.returns
returns c = lemmas.ends_are_histories
