use Rattle.desk_history.proofs.CallerLemmas as lemmas
use Rattle.desk_history.proofs.form_laws.callers_are_told.Goals as goal

pub returns : goal.returns
returns c = lemmas.callers_are_told
