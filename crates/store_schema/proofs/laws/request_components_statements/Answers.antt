use Rattle.store_schema.proofs.InsertFacts.{insert_request_component}
use Rattle.store_schema.proofs.SelectFacts.{select_request_components}
use Rattle.store_schema.proofs.laws.request_components_statements.Goals as goal

pub returns-clause-inserted : goal.returns-clause-inserted
returns-clause-inserted g = insert_request_component

pub returns-clause-of_request : goal.returns-clause-of_request
returns-clause-of_request g = select_request_components
