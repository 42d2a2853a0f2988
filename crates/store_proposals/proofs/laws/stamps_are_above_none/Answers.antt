use Rattle.store_proposals.proofs.StampLemmas.{rows_stamped}
use Rattle.store_proposals.proofs.laws.stamps_are_above_none.Goals as goal

pub returns : goal.returns
returns g owner cs h = rows_stamped owner cs h.formed
