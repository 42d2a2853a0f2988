use Rattle.base.specs.Parts.{part_of}
use Rattle.base.proofs.ElementLemmas.{element_of-some, element_of-none}
use Rattle.base.proofs.elements.element.Goals as goal

pub returns-in-Some-clause-found : goal.returns-in-Some-clause-found
returns-in-Some-clause-found c = let s = element_of-some c.args.bytes.now (part_of c.in-Some.element c.in-Some.rest.now) c.in-Some.ensures in (s.element, s.is)

pub returns-in-None-clause-only : goal.returns-in-None-clause-only
returns-in-None-clause-only c = element_of-none c.args.bytes.now c.in-None.ensures
