use Rattle.std.proofs.Common.{rules}
use Rattle.desk_history.proofs.rules.review_by.Goals as goal

pub returns-else-is_own : goal.returns-else-is_own
returns-else-is_own c = search rules
