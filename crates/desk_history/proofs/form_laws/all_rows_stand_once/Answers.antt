use Rattle.desk_history.proofs.RequestRowLemmas as lemmas
use Rattle.desk_history.proofs.form_laws.all_rows_stand_once.Goals as goal

pub returns : goal.returns
returns c = lemmas.all_rows_stand_once
