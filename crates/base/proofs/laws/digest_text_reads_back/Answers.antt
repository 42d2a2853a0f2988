use Rattle.base.proofs.DigestLemmas.{digest_of-text}
use Rattle.base.proofs.laws.digest_text_reads_back.Goals as goal

pub returns : goal.returns
returns c = digest_of-text
