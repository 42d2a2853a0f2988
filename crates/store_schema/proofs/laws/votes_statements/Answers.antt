use Rattle.store_schema.proofs.InsertFacts.{insert_vote}
use Rattle.store_schema.proofs.SelectFacts.{select_votes}
use Rattle.store_schema.proofs.laws.votes_statements.Goals as goal

pub returns-clause-inserted : goal.returns-clause-inserted
returns-clause-inserted g = insert_vote

pub returns-clause-of_request : goal.returns-clause-of_request
returns-clause-of_request g = select_votes
