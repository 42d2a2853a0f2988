use Rattle.http_calls.proofs.LawLemmas as lemmas
use Rattle.http_calls.proofs.laws.repeats_match.Goals as goal

pub returns : goal.returns
returns c = lemmas.repeats_match
