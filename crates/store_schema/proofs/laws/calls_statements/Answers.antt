use Rattle.store_schema.proofs.CountFacts.{count_calls}
use Rattle.store_schema.proofs.InsertFacts.{insert_call}
use Rattle.store_schema.proofs.SelectFacts.{select_call, select_call_numbered, select_calls}
use Rattle.store_schema.proofs.laws.calls_statements.Goals as goal

pub returns-clause-inserted : goal.returns-clause-inserted
returns-clause-inserted g = insert_call

pub returns-clause-of_key : goal.returns-clause-of_key
returns-clause-of_key g = select_call

pub returns-clause-numbered : goal.returns-clause-numbered
returns-clause-numbered g = select_call_numbered

pub returns-clause-all : goal.returns-clause-all
returns-clause-all g = select_calls

pub returns-clause-counted : goal.returns-clause-counted
returns-clause-counted g = count_calls
