use Rattle.pe_image.proofs.RefusalLemmas.{none-risen}
use Rattle.pe_image.proofs.laws.no_slice_fails.Goals as goal

pub returns-clause-never : goal.returns-clause-never
returns-clause-never c = none-risen
