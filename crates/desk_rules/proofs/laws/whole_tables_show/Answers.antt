use Rattle.desk_rules.proofs.ShownLemmas as lemmas
use Rattle.desk_rules.proofs.laws.whole_tables_show.Goals as goal

pub returns : goal.returns
returns c = lemmas.whole_shows
