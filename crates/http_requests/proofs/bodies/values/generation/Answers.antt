use Rattle.std.proofs.Common.{rules}
use Rattle.http_requests.proofs.bodies.values.generation.Goals as goal

pub returns-in-Ok : goal.returns-in-Ok
returns-in-Ok c = search rules
