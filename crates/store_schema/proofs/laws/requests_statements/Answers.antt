use Rattle.store_schema.proofs.ChangeFacts.{update_state}
use Rattle.store_schema.proofs.CountFacts.{count_requests, count_requests_in}
use Rattle.store_schema.proofs.InsertFacts.{insert_request}
use Rattle.store_schema.proofs.SelectFacts.{select_request, select_numbers_of_file, select_numbers_of_digest, select_numbers_of_signing}
use Rattle.store_schema.proofs.laws.requests_statements.Goals as goal

pub returns-clause-inserted : goal.returns-clause-inserted
returns-clause-inserted g = insert_request

pub returns-clause-decided : goal.returns-clause-decided
returns-clause-decided g = update_state

pub returns-clause-numbered : goal.returns-clause-numbered
returns-clause-numbered g = select_request

pub returns-clause-counted : goal.returns-clause-counted
returns-clause-counted g = count_requests

pub returns-clause-counted_in : goal.returns-clause-counted_in
returns-clause-counted_in g = count_requests_in

pub returns-clause-of_file : goal.returns-clause-of_file
returns-clause-of_file g = select_numbers_of_file

pub returns-clause-of_digest : goal.returns-clause-of_digest
returns-clause-of_digest g = select_numbers_of_digest

pub returns-clause-of_signing : goal.returns-clause-of_signing
returns-clause-of_signing g = select_numbers_of_signing
