use Rattle.store_schema.proofs.InsertFacts.{insert_return}
use Rattle.store_schema.proofs.SelectFacts.{select_return, select_numbers_of_returned_file, select_numbers_of_returned_digest}
use Rattle.store_schema.proofs.laws.returns_statements.Goals as goal

pub returns-clause-inserted : goal.returns-clause-inserted
returns-clause-inserted g = insert_return

pub returns-clause-of_request : goal.returns-clause-of_request
returns-clause-of_request g = select_return

pub returns-clause-of_file : goal.returns-clause-of_file
returns-clause-of_file g = select_numbers_of_returned_file

pub returns-clause-of_digest : goal.returns-clause-of_digest
returns-clause-of_digest g = select_numbers_of_returned_digest
