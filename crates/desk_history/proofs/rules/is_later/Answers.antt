use Rattle.std.proofs.Common.{rules}
use Rattle.desk_history.proofs.rules.is_later.Goals as goal

pub returns-in-Some : goal.returns-in-Some
returns-in-Some c = search rules
