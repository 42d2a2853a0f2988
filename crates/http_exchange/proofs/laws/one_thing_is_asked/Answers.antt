use Rattle.http_exchange.proofs.InputLemmas.{asks_once}
use Rattle.http_exchange.proofs.laws.one_thing_is_asked.Goals as goal

pub returns : goal.returns
returns c = asks_once
