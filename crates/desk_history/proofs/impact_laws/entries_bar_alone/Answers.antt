use Rattle.desk_history.proofs.EntriesAloneLemmas as lemmas
use Rattle.desk_history.proofs.impact_laws.entries_bar_alone.Goals as goal

pub returns-clause-bars : goal.returns-clause-bars
returns-clause-bars c = lemmas.entries_bar

pub returns-clause-rule : goal.returns-clause-rule
returns-clause-rule c = lemmas.entries_rule

pub returns-clause-tell : goal.returns-clause-tell
returns-clause-tell c = lemmas.entries_tell

pub returns-clause-miss : goal.returns-clause-miss
returns-clause-miss c = lemmas.entries_miss
