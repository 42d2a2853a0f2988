use Rattle.store_schema.proofs.CountFacts.{count_people}
use Rattle.store_schema.proofs.InsertFacts.{insert_person}
use Rattle.store_schema.proofs.SelectFacts.{select_people, select_person, select_person_of_token}
use Rattle.store_schema.proofs.laws.people_statements.Goals as goal

pub returns-clause-inserted : goal.returns-clause-inserted
returns-clause-inserted g = insert_person

pub returns-clause-named : goal.returns-clause-named
returns-clause-named g = select_person

pub returns-clause-by_token : goal.returns-clause-by_token
returns-clause-by_token g = select_person_of_token

pub returns-clause-all : goal.returns-clause-all
returns-clause-all g = select_people

pub returns-clause-counted : goal.returns-clause-counted
returns-clause-counted g = count_people
