use Rattle.base.proofs.OutputLemmas.{OnErr-fact}
use Rattle.cli_audit.proofs.WritingLemmas.{flushed_begins}
use Rattle.cli_audit.proofs.writing.say.Goals as goal

pub returns-in_err-flush_all-clause-err : goal.returns-in_err-flush_all-clause-err
returns-in_err-flush_all-clause-err g c =
    OnErr-fact _ _ (flushed_begins _ _ _ _ c.in_ok-put_told.ensures.ok c.flush_all.ensures.kept)
