use Rattle.cli_commands.proofs.FaultLemmas.{reopen_told, store_given, store_told}
use Rattle.cli_commands.proofs.LineLemmas.{whole_kept}
use Rattle.cli_commands.proofs.work.write_export.Goals as goal

-- the desk failed, or the writer

pub returns-in-Err-clause-poisons : goal.returns-in-Err-clause-poisons
returns-in-Err-clause-poisons g c = λ told. c.in-Err.ensures.poisons (store_given c.from.result c.in-Err.refusal c.from.ensures told)

pub returns-in-Err-clause-closed : goal.returns-in-Err-clause-closed
returns-in-Err-clause-closed g c = λ failed.
    let it = c.in-Err.ensures.closed failed in
    (reopen_told c.from.result c.in-Err.refusal c.from.ensures it.0, it.1, it.2)

pub returns-in-Err-clause-same : goal.returns-in-Err-clause-same
returns-in-Err-clause-same g c = λ clean other.
    c.in-Err.ensures.same clean (λ given. other (store_told c.from.result c.in-Err.refusal c.from.ensures given))

-- the buffered bytes weren't written out

pub returns-in-Err-flush_all-clause-beginning : goal.returns-in-Err-flush_all-clause-beginning
returns-in-Err-flush_all-clause-beginning g c = λ clean owner cs was.
    whole_kept _ _ _ _ (c.in-Ok.ensures.ok clean owner cs was) c.flush_all.ensures.kept
