use Rattle.authenticode.proofs.OutcomeLemmas.{IsFirstFault-one}
use Rattle.authenticode.proofs.laws.fault_is_one.Goals as goal

pub returns : goal.returns
returns c = IsFirstFault-one
