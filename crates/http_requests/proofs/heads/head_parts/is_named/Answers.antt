use Rattle.std.proofs.Common.{rules}
use Rattle.http_requests.proofs.heads.head_parts.is_named.Goals as goal

pub returns : goal.returns
returns c = search rules
