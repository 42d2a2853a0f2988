use Rattle.std.proofs.Common.{rules}
use Rattle.http_requests.proofs.fields.length.Goals as goal

pub returns : goal.returns
returns c = search rules
