use Rattle.std.proofs.Common.{rules}
use Rattle.http_requests.proofs.resource.Methods.text.Goals as goal

pub returns-in-GetAndPost : goal.returns-in-GetAndPost
returns-in-GetAndPost c = search rules
