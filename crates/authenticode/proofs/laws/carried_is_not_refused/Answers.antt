use Rattle.authenticode.proofs.OutcomeLemmas.{IsCarried-no_fault}
use Rattle.authenticode.proofs.laws.carried_is_not_refused.Goals as goal

pub returns : goal.returns
returns c = IsCarried-no_fault
