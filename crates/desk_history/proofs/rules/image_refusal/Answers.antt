use Rattle.std.proofs.Common.{rules}
use Rattle.desk_history.proofs.rules.image_refusal.Goals as goal

pub returns-then-ne-2 : goal.returns-then-ne-2
returns-then-ne-2 g c = search rules
