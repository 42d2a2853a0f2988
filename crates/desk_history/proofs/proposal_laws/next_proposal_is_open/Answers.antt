use Rattle.desk_history.proofs.ClosingLemmas as lemmas
use Rattle.desk_history.proofs.proposal_laws.next_proposal_is_open.Goals as goal

pub returns : goal.returns
returns c = lemmas.next_is_open
