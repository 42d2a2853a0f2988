use Rattle.http_calls.proofs.LawLemmas as lemmas
use Rattle.http_calls.proofs.laws.submitters_are_answered_by_own.Goals as goal

pub returns : goal.returns
returns c = lemmas.submitters_are_answered_by_own
