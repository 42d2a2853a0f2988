use Rattle.store_schema.proofs.InsertFacts.{insert_migrated}
use Rattle.store_schema.proofs.laws.migrated_statements.Goals as goal

pub returns : goal.returns
returns g = insert_migrated
