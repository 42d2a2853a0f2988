use Rattle.store_schema.proofs.ChangeFacts.{update_stamp, update_version}
use Rattle.store_schema.proofs.InsertFacts.{insert_desk}
use Rattle.store_schema.proofs.SelectFacts.{select_desk, select_first_desk}
use Rattle.store_schema.proofs.laws.desk_statements.Goals as goal

pub returns-clause-inserted : goal.returns-clause-inserted
returns-clause-inserted g = insert_desk

pub returns-clause-stamped : goal.returns-clause-stamped
returns-clause-stamped g = update_stamp

pub returns-clause-migrated : goal.returns-clause-migrated
returns-clause-migrated g = update_version

pub returns-clause-shown : goal.returns-clause-shown
returns-clause-shown g = select_desk

pub returns-clause-shown_first : goal.returns-clause-shown_first
returns-clause-shown_first g = select_first_desk
