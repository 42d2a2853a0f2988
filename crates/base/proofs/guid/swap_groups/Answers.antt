use Rattle.std.proofs.Common.{rules}
use Rattle.base.proofs.guid.swap_groups.Goals as goal

pub returns : goal.returns
returns c = search rules
