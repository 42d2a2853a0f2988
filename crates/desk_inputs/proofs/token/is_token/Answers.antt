use Rattle.std.proofs.Common.{rules}
use Rattle.desk_inputs.proofs.token.is_token.Goals as goal

pub returns-then-text-lt-SHORTEST_TOKEN : goal.returns-then-text-lt-SHORTEST_TOKEN
returns-then-text-lt-SHORTEST_TOKEN c = search rules
