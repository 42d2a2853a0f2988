use Rattle.desk_history.proofs.ClosingLemmas as lemmas
use Rattle.desk_history.proofs.proposal_laws.proposals_close_once.Goals as goal

pub returns : goal.returns
returns c = lemmas.closed_once
