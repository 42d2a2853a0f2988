use Rattle.desk_history.proofs.VerdictLemmas as lemmas
use Rattle.desk_history.proofs.laws.what_is_barred_stays_barred.Goals as goal

pub returns : goal.returns
returns c = lemmas.what_is_barred_stays_barred
