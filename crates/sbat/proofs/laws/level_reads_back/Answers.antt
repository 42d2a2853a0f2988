use Rattle.sbat.proofs.ReadBackLemmas.{reads_back}
use Rattle.sbat.proofs.laws.level_reads_back.Goals as goal

pub returns : goal.returns
returns c = reads_back
