use Rattle.std.proofs.Common.{rules}
use Rattle.http_responses.proofs.responses.refused_response.Goals as goal

pub returns : goal.returns
returns c = search rules
