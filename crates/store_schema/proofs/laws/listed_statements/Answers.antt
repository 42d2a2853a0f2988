use Rattle.store_schema.proofs.ChangeFacts.{delete_listed}
use Rattle.store_schema.proofs.CountFacts.{count_listed, count_listed_of}
use Rattle.store_schema.proofs.InsertFacts.{insert_listed}
use Rattle.store_schema.proofs.SelectFacts.{select_listed, select_listed_of}
use Rattle.store_schema.proofs.laws.listed_statements.Goals as goal

pub returns-clause-inserted : goal.returns-clause-inserted
returns-clause-inserted g = insert_listed

pub returns-clause-unlisted : goal.returns-clause-unlisted
returns-clause-unlisted g = delete_listed

pub returns-clause-keyed : goal.returns-clause-keyed
returns-clause-keyed g = select_listed

pub returns-clause-of_kind : goal.returns-clause-of_kind
returns-clause-of_kind g = select_listed_of

pub returns-clause-counted : goal.returns-clause-counted
returns-clause-counted g = count_listed

pub returns-clause-counted_of_kind : goal.returns-clause-counted_of_kind
returns-clause-counted_of_kind g = count_listed_of
