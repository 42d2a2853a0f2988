use Rattle.std.proofs.Common.{rules}
use Rattle.base.proofs.input.read_all.Goals as goal

pub returns-clause-whole : goal.returns-clause-whole
returns-clause-whole g c = search rules
