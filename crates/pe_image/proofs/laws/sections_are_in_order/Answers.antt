use Rattle.pe_image.proofs.OrderLemmas.{AllPairs-in_order, IsPermutation-in_order}
use Rattle.pe_image.proofs.laws.sections_are_in_order.Goals as goal

pub returns-clause-ascending : goal.returns-clause-ascending
returns-clause-ascending c = AllPairs-in_order

pub returns-clause-each : goal.returns-clause-each
returns-clause-each c = IsPermutation-in_order
