use Rattle.cli_audit.proofs.ReadingLemmas.{spared}
use Rattle.cli_audit.proofs.digests.digest_of.Goals as goal

pub returns-in-Err-clause-left : goal.returns-in-Err-clause-left
returns-in-Err-clause-left g c = spared g.S.Store c.args.desk.now c.export.new.self c.in-Err.ensures.spares
