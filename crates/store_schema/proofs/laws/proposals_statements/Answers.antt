use Rattle.store_schema.proofs.ChangeFacts.{update_proposal_state}
use Rattle.store_schema.proofs.CountFacts.{count_proposals}
use Rattle.store_schema.proofs.InsertFacts.{insert_proposal}
use Rattle.store_schema.proofs.SelectFacts.{select_proposal, select_proposals}
use Rattle.store_schema.proofs.laws.proposals_statements.Goals as goal

pub returns-clause-inserted : goal.returns-clause-inserted
returns-clause-inserted g = insert_proposal

pub returns-clause-closed : goal.returns-clause-closed
returns-clause-closed g = update_proposal_state

pub returns-clause-numbered : goal.returns-clause-numbered
returns-clause-numbered g = select_proposal

pub returns-clause-all : goal.returns-clause-all
returns-clause-all g = select_proposals

pub returns-clause-counted : goal.returns-clause-counted
returns-clause-counted g = count_proposals
