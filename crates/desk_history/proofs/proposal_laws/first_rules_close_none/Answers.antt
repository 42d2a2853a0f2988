use Rattle.desk_history.proofs.ClosingLemmas as lemmas
use Rattle.desk_history.proofs.proposal_laws.first_rules_close_none.Goals as goal

pub returns : goal.returns
returns c = lemmas.first_close_none
