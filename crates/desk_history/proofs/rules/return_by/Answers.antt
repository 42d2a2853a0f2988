use Rattle.std.proofs.Common.{rules}
use Rattle.desk_history.proofs.rules.return_by.Goals as goal

pub returns-in-Approved : goal.returns-in-Approved
returns-in-Approved c = search rules
