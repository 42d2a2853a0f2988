use Rattle.http_calls.proofs.LawLemmas as lemmas
use Rattle.http_calls.proofs.laws.shown_tags_stay.Goals as goal

pub returns : goal.returns
returns c = lemmas.shown_tags_stay
