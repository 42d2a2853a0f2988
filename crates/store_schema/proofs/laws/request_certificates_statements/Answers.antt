use Rattle.store_schema.proofs.InsertFacts.{insert_request_certificate}
use Rattle.store_schema.proofs.SelectFacts.{select_request_certificates, select_numbers_of_certificate}
use Rattle.store_schema.proofs.laws.request_certificates_statements.Goals as goal

pub returns-clause-inserted : goal.returns-clause-inserted
returns-clause-inserted g = insert_request_certificate

pub returns-clause-of_request : goal.returns-clause-of_request
returns-clause-of_request g = select_request_certificates

pub returns-clause-of_certificate : goal.returns-clause-of_certificate
returns-clause-of_certificate g = select_numbers_of_certificate
