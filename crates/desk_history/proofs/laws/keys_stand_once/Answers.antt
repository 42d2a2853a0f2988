use Rattle.desk_history.proofs.KeyLemmas as lemmas
use Rattle.desk_history.proofs.laws.keys_stand_once.Goals as goal

pub returns : goal.returns
returns c = lemmas.keys_stand_once
