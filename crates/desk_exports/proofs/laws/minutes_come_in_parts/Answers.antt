use Rattle.desk_exports.proofs.MinutePartLemmas as lemmas
use Rattle.desk_exports.proofs.laws.minutes_come_in_parts.Goals as goal

pub returns-clause-joined : goal.returns-clause-joined
returns-clause-joined c = lemmas.parts_join

pub returns-clause-all : goal.returns-clause-all
returns-clause-all c = lemmas.parts_end

pub returns-clause-later : goal.returns-clause-later
returns-clause-later c = lemmas.first_lines_stay
