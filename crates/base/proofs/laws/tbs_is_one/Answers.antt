use Rattle.base.proofs.ElementLemmas as elements
use Rattle.base.proofs.laws.tbs_is_one.Goals as goal

pub returns : goal.returns
returns c = elements.tbs_is_one
