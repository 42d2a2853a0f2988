use Rattle.desk_minutes.proofs.BeginningLemmas as lemmas
use Rattle.desk_minutes.proofs.laws.beginnings_follow.Goals as goal

pub returns-clause-whole : goal.returns-clause-whole
returns-clause-whole c = lemmas.beginnings_follow

pub returns-clause-first : goal.returns-clause-first
returns-clause-first c = lemmas.first_lines_follow
