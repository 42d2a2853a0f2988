use Rattle.std.proofs.Common.{rules}
use Rattle.http_responses.proofs.status.Status.code.Goals as goal

pub returns-in-UnprocessableEntity : goal.returns-in-UnprocessableEntity
returns-in-UnprocessableEntity c = search rules
