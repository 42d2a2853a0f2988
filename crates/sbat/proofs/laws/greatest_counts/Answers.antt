use Rattle.sbat.proofs.GenerationLemmas.{is_greatest}
use Rattle.sbat.proofs.laws.greatest_counts.Goals as goal

pub returns : goal.returns
returns c = is_greatest
