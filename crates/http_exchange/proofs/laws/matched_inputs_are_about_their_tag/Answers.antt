use Rattle.http_exchange.proofs.MatchLemmas as lemmas
use Rattle.http_exchange.proofs.laws.matched_inputs_are_about_their_tag.Goals as goal

pub returns : goal.returns
returns c = lemmas.matched_inputs_are_about_their_tag
