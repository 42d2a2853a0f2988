use Rattle.desk_exports.proofs.OrderLemmas.{all_revoked, level_in_order, listed_in_order, revoked_in_order}
use Rattle.desk_exports.proofs.laws.exports_are_in_order.Goals as goal

pub returns-clause-dbx : goal.returns-clause-dbx
returns-clause-dbx c = revoked_in_order

pub returns-clause-all : goal.returns-clause-all
returns-clause-all c = all_revoked

pub returns-clause-db : goal.returns-clause-db
returns-clause-db c = listed_in_order

pub returns-clause-level : goal.returns-clause-level
returns-clause-level c = level_in_order
