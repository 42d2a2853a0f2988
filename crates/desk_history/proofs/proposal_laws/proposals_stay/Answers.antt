use Rattle.desk_history.proofs.ProposalShownLemmas as lemmas
use Rattle.desk_history.proofs.proposal_laws.proposals_stay.Goals as goal

pub returns : goal.returns
returns c = lemmas.proposals_stay
