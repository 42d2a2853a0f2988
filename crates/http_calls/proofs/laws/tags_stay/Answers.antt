use Rattle.http_calls.proofs.LawLemmas as lemmas
use Rattle.http_calls.proofs.laws.tags_stay.Goals as goal

pub returns : goal.returns
returns c = lemmas.tags_stay
