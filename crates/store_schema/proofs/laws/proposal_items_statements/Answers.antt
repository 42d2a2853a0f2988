use Rattle.store_schema.proofs.InsertFacts.{insert_proposal_item}
use Rattle.store_schema.proofs.SelectFacts.{select_proposal_items}
use Rattle.store_schema.proofs.laws.proposal_items_statements.Goals as goal

pub returns-clause-inserted : goal.returns-clause-inserted
returns-clause-inserted g = insert_proposal_item

pub returns-clause-of_proposal : goal.returns-clause-of_proposal
returns-clause-of_proposal g = select_proposal_items
