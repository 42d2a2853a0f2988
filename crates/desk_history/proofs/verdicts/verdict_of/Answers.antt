use Rattle.std.proofs.Common.{rules}
use Rattle.desk_history.proofs.verdicts.verdict_of.Goals as goal

pub returns-in-Some : goal.returns-in-Some
returns-in-Some g c = search rules

pub returns-in-None : goal.returns-in-None
returns-in-None g c = search rules

pub returns-then-has_revoked : goal.returns-then-has_revoked
returns-then-has_revoked g c = search rules
