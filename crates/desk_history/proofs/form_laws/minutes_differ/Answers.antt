use Rattle.desk_history.proofs.FormedLemmas as lemmas
use Rattle.desk_history.proofs.form_laws.minutes_differ.Goals as goal

pub returns : goal.returns
returns c = lemmas.minutes_differ
