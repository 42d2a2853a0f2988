use Rattle.base.proofs.OrderLemmas.{IsArranged-sorted}
use Rattle.base.proofs.order.arrange.Goals as goal

pub returns-clause-arranged : goal.returns-clause-arranged
returns-clause-arranged c =
    IsArranged-sorted _ _ _ c.sort_unstable.ensures.permutation c.sort_unstable.ensures.sorted c.dedup.ensures.filtered
