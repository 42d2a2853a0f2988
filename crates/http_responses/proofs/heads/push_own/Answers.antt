use Rattle.std.proofs.Common.{rules}
use Rattle.http_responses.proofs.heads.push_own.Goals as goal

pub returns-in-Unauthorized : goal.returns-in-Unauthorized
returns-in-Unauthorized c = search rules
