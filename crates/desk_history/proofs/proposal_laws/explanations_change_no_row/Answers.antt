use Rattle.desk_history.proofs.ProposalShownLemmas as lemmas
use Rattle.desk_history.proofs.proposal_laws.explanations_change_no_row.Goals as goal

pub returns : goal.returns
returns c = lemmas.explains_alone
