use Rattle.std.proofs.Common.{rules}
use Rattle.desk_rules.proofs.room.count.Goals as goal

pub returns : goal.returns
returns c = search rules
