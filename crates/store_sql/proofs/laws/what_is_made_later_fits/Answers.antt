use Rattle.store_sql.proofs.LaterLemmas.{index_fits, table_fits}
use Rattle.store_sql.proofs.laws.what_is_made_later_fits.Goals as goal

pub returns-clause-table : goal.returns-clause-table
returns-clause-table g layout schema t leads fits parents = table_fits layout schema leads fits t parents

pub returns-clause-index : goal.returns-clause-index
returns-clause-index g layout schema t i leads fits = index_fits layout schema leads fits t i
