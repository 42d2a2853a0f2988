use Rattle.desk_history.proofs.EntriesAloneLemmas as lemmas
use Rattle.desk_history.proofs.impact_laws.listed_is_allowed.Goals as goal

pub returns : goal.returns
returns c = lemmas.listed_is_allowed
