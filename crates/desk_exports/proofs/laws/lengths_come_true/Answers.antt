use Rattle.desk_exports.proofs.LengthLemmas.{dbx_has_length, length_comes_true}
use Rattle.desk_exports.proofs.laws.lengths_come_true.Goals as goal

pub returns-clause-dbx : goal.returns-clause-dbx
returns-clause-dbx c = dbx_has_length

pub returns-clause-confirmed : goal.returns-clause-confirmed
returns-clause-confirmed c = length_comes_true
