use Rattle.desk_history.specs.Tables.{tables}
use Rattle.desk_history.proofs.RowLemmas.{rows_stand_once}
use Rattle.store_proposals.proofs.ItemLemmas.{items_apart}
use Rattle.store_proposals.proofs.laws.items_stand_once.Goals as goal

pub returns : goal.returns
returns g owner cs h = items_apart (tables owner cs).proposals (rows_stand_once owner cs h).proposals
