use Rattle.base.proofs.RefusalLemmas.{number_of-differ}
use Rattle.base.proofs.laws.refusal_numbers_differ.Goals as goal

pub returns : goal.returns
returns c = number_of-differ
