use Rattle.std.proofs.Common.{rules}
use Rattle.sbat.proofs.stamp.Stamp.parse.Goals as goal

pub returns : goal.returns
returns c = search rules
