use Rattle.base.proofs.ElementLemmas as elements
use Rattle.base.proofs.laws.element_is_one.Goals as goal

pub returns : goal.returns
returns c = λ s t i d v w x y h k e. let same = elements.element_is_one s t i d v w x y h k e in (same.tag, same.content, same.whole, same.rest)
