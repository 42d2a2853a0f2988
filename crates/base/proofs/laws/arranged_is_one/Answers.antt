use Rattle.base.proofs.OrderLemmas.{IsArranged-one}
use Rattle.base.proofs.laws.arranged_is_one.Goals as goal

pub returns : goal.returns
returns c = IsArranged-one
