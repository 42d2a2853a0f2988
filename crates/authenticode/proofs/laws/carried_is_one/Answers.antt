use Rattle.authenticode.proofs.OutcomeLemmas.{IsCarried-one}
use Rattle.authenticode.proofs.laws.carried_is_one.Goals as goal

pub returns : goal.returns
returns c = IsCarried-one
