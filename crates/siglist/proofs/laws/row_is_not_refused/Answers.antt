use Rattle.siglist.proofs.RowLemmas as rows
use Rattle.siglist.proofs.laws.row_is_not_refused.Goals as goal

pub returns : goal.returns
returns c = rows.row_is_not_refused
