use Rattle.desk_history.proofs.OfficerLemmas as lemmas
use Rattle.desk_history.proofs.proposal_laws.two_officers_put_into_force.Goals as goal

pub returns : goal.returns
returns c = lemmas.two_officers_put
