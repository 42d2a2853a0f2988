use Rattle.std.proofs.Common.{rules}
use Rattle.desk_history.proofs.rules.is_for.Goals as goal

pub returns-in-Submitter : goal.returns-in-Submitter
returns-in-Submitter c = search rules
