use Rattle.siglist.proofs.RowLemmas as rows
use Rattle.siglist.proofs.laws.fault_is_one.Goals as goal

pub returns : goal.returns
returns c = rows.fault_is_one
