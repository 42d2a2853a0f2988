use Rattle.std.proofs.Common.{rules}
use Rattle.sbat.proofs.fault.SbatFault.place.Goals as goal

pub returns-in-Row : goal.returns-in-Row
returns-in-Row c = search rules
