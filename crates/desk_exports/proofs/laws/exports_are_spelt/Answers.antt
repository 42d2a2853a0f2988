use Rattle.desk_exports.proofs.SpellingLemmas.{db_spells, dbx_spells, shim_spells}
use Rattle.desk_exports.proofs.laws.exports_are_spelt.Goals as goal

pub returns-clause-dbx : goal.returns-clause-dbx
returns-clause-dbx c = dbx_spells

pub returns-clause-shim : goal.returns-clause-shim
returns-clause-shim c = shim_spells

pub returns-clause-db : goal.returns-clause-db
returns-clause-db c = db_spells
