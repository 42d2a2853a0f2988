use Rattle.http_calls.proofs.LawLemmas as lemmas
use Rattle.http_calls.proofs.laws.refusals_change_nothing.Goals as goal

pub returns : goal.returns
returns c = lemmas.refusals_change_nothing
