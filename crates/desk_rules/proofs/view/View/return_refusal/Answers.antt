use Rattle.std.proofs.Common.{rules}
use Rattle.desk_rules.proofs.view.View.return_refusal.Goals as goal

pub returns-in-Some : goal.returns-in-Some
returns-in-Some c = search rules
