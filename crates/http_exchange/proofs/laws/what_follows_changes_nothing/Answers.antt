use Rattle.http_exchange.proofs.InputLemmas.{asks_the_same}
use Rattle.http_exchange.proofs.laws.what_follows_changes_nothing.Goals as goal

pub returns : goal.returns
returns c = asks_the_same
