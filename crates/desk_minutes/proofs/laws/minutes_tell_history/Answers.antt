use Rattle.desk_minutes.proofs.FollowLemmas.{none_goes_through}
use Rattle.desk_minutes.proofs.MinutedLemmas.{keeps_minutes, minuted_history, minutes_tell}
use Rattle.desk_minutes.proofs.laws.minutes_tell_history.Goals as goal

pub returns-clause-minuted : goal.returns-clause-minuted
returns-clause-minuted c = minuted_history

pub returns-clause-kept : goal.returns-clause-kept
returns-clause-kept c = keeps_minutes

pub returns-clause-same : goal.returns-clause-same
returns-clause-same c = minutes_tell

pub returns-clause-none : goal.returns-clause-none
returns-clause-none c = none_goes_through
