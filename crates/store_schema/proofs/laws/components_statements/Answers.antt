use Rattle.store_schema.proofs.ChangeFacts.{update_generation}
use Rattle.store_schema.proofs.CountFacts.{count_components}
use Rattle.store_schema.proofs.InsertFacts.{insert_component}
use Rattle.store_schema.proofs.SelectFacts.{select_component, select_components}
use Rattle.store_schema.proofs.laws.components_statements.Goals as goal

pub returns-clause-inserted : goal.returns-clause-inserted
returns-clause-inserted g = insert_component

pub returns-clause-raised : goal.returns-clause-raised
returns-clause-raised g = update_generation

pub returns-clause-named : goal.returns-clause-named
returns-clause-named g = select_component

pub returns-clause-all : goal.returns-clause-all
returns-clause-all g = select_components

pub returns-clause-counted : goal.returns-clause-counted
returns-clause-counted g = count_components
