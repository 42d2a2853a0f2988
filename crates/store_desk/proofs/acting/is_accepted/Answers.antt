use Rattle.std.proofs.Common.{rules}
use Rattle.store_desk.proofs.acting.is_accepted.Goals as goal

pub returns-in-Repeated : goal.returns-in-Repeated
returns-in-Repeated c = search rules
