use Rattle.std.proofs.Common.{rules}
use Rattle.base.proofs.digest.Digest.text.Goals as goal

pub returns : goal.returns
returns c = search rules
