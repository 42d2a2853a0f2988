use Rattle.http_calls.proofs.LawLemmas as lemmas
use Rattle.http_calls.proofs.laws.matched_commands_are_about_their_tag.Goals as goal

pub returns : goal.returns
returns c = lemmas.matched_commands_are_about_their_tag
