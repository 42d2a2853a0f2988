use Rattle.std.proofs.Common.{rules}
use Rattle.desk_types.proofs.digests.Digests.new.Goals as goal

pub returns : goal.returns
returns c = search rules
