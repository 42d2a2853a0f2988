use Rattle.std.proofs.Common.{rules}
use Rattle.desk_inputs.proofs.imports.fault.ImportFault.place.Goals as goal

pub returns-in-Record : goal.returns-in-Record
returns-in-Record c = search rules
