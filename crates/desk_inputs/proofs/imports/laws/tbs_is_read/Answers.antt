use Rattle.desk_inputs.proofs.TbsLemmas.{tbs_of-each, tbs_of-found}
use Rattle.desk_inputs.proofs.imports.laws.tbs_is_read.Goals as goal

pub returns-clause-found : goal.returns-clause-found
returns-clause-found c = tbs_of-found

pub returns-clause-each : goal.returns-clause-each
returns-clause-each c = tbs_of-each
