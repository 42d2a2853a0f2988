use Rattle.desk_history.proofs.RowLemmas as lemmas
use Rattle.desk_history.proofs.laws.rows_stand_once.Goals as goal

pub returns : goal.returns
returns c = lemmas.rows_stand_once
