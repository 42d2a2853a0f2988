use Rattle.store_schema.proofs.CountFacts.{count_revoked_certificates}
use Rattle.store_schema.proofs.InsertFacts.{insert_revoked_certificate}
use Rattle.store_schema.proofs.SelectFacts.{select_revoked_certificate, select_revoked_certificates}
use Rattle.store_schema.proofs.laws.revoked_certificates_statements.Goals as goal

pub returns-clause-inserted : goal.returns-clause-inserted
returns-clause-inserted g = insert_revoked_certificate

pub returns-clause-found : goal.returns-clause-found
returns-clause-found g = select_revoked_certificate

pub returns-clause-all : goal.returns-clause-all
returns-clause-all g = select_revoked_certificates

pub returns-clause-counted : goal.returns-clause-counted
returns-clause-counted g = count_revoked_certificates
