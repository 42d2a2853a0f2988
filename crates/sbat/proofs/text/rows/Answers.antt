use Rattle.std.proofs.Common.{rules}
use Rattle.sbat.proofs.text.rows.Goals as goal

pub returns : goal.returns
returns c = search rules
