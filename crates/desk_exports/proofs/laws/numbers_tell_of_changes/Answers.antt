use Rattle.desk_exports.proofs.ChangeLemmas as lemmas
use Rattle.desk_exports.proofs.laws.numbers_tell_of_changes.Goals as goal

pub returns-clause-submitters : goal.returns-clause-submitters
returns-clause-submitters c = lemmas.submitters_numbers_tell

pub returns-clause-others : goal.returns-clause-others
returns-clause-others c = lemmas.others_numbers_tell
