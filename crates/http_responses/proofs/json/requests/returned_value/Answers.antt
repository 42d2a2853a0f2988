use Rattle.std.proofs.Common.{rules}
use Rattle.http_responses.proofs.json.requests.returned_value.Goals as goal

pub returns-in-Some : goal.returns-in-Some
returns-in-Some c = search rules
