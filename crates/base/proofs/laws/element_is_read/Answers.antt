use Rattle.base.proofs.ElementLemmas.{element_of-each, element_of-some}
use Rattle.base.proofs.laws.element_is_read.Goals as goal

pub returns-clause-found : goal.returns-clause-found
returns-clause-found c = λ b p h. let stands = element_of-some b p h in (stands.element, stands.is)

pub returns-clause-each : goal.returns-clause-each
returns-clause-each c = element_of-each
