use Rattle.std.proofs.Common.{rules}
use Rattle.desk_inputs.proofs.fault.FactsFault.place.Goals as goal

pub returns-in-Components : goal.returns-in-Components
returns-in-Components c = search rules
