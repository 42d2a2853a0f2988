use Rattle.desk_history.proofs.LevelLemmas as lemmas
use Rattle.desk_history.proofs.form_laws.level_has_no_sbat.Goals as goal

pub returns : goal.returns
returns c = lemmas.level_has_no_sbat
