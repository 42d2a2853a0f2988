use Rattle.desk_history.proofs.ProposalShownLemmas as lemmas
use Rattle.desk_history.proofs.proposal_laws.proposals_are_shown.Goals as goal

pub returns : goal.returns
returns c = lemmas.shown_as_proposed
