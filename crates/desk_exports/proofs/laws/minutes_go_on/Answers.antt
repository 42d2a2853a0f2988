use Rattle.desk_exports.proofs.MinuteLemmas as lemmas
use Rattle.desk_exports.proofs.laws.minutes_go_on.Goals as goal

pub returns : goal.returns
returns c = lemmas.minutes_go_on
