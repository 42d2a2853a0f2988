use Rattle.pe_image.specs.Checks.{checks}
use Rattle.pe_image.proofs.CheckLemmas.{hold-from-none, none-from-hold}
use Rattle.pe_image.proofs.laws.none_fails_where_laid.Goals as goal

pub returns : goal.returns
returns c = λ f. (none-from-hold (checks f), hold-from-none (checks f))
