use Rattle.desk_minutes.proofs.LineLemmas as lemmas
use Rattle.desk_minutes.proofs.laws.lines_differ.Goals as goal

pub returns : goal.returns
returns c = lemmas.lines_differ
