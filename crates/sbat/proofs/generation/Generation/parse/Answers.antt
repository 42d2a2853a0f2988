use Rattle.std.proofs.Common.{rules}
use Rattle.sbat.proofs.generation.Generation.parse.Goals as goal

pub returns-in-Ok : goal.returns-in-Ok
returns-in-Ok c = search rules
