use Rattle.std.proofs.Common.{ap, refl, arith}
use Rattle.desk_history.specs.Verdicts as verdicts
use Rattle.desk_history.specs.declared.finding.Verdict.{Verdict}
use Rattle.cli_output.specs.VerdictLines.{verdict_line}
use Rattle.store_desk.specs.Desks.{ShowsDesk}
use Rattle.cli_commands.proofs.FaultLemmas.{reopen_told, store_given, store_told}
use Rattle.cli_commands.proofs.LineLemmas.{OnErr-of_each, none_written}
use Rattle.cli_commands.proofs.work.judge.Goals as goal

-- the desk failed

pub returns-in-Err-clause-beginning : goal.returns-in-Err-clause-beginning
returns-in-Err-clause-beginning g c = λ clean owner cs was. none_written _ _

pub returns-in-Err-clause-poisons : goal.returns-in-Err-clause-poisons
returns-in-Err-clause-poisons g c = λ told. c.in-Err.ensures.reads.poisons (store_given c.from.result c.in-Err.refusal c.from.ensures told)

pub returns-in-Err-clause-closed : goal.returns-in-Err-clause-closed
returns-in-Err-clause-closed g c = λ failed.
    let it = c.in-Err.ensures.reads.closed failed in
    (reopen_told c.from.result c.in-Err.refusal c.from.ensures it.0, it.1, refl)

pub returns-in-Err-clause-same : goal.returns-in-Err-clause-same
returns-in-Err-clause-same g c = λ clean other.
    c.in-Err.ensures.reads.same clean (λ given. other (store_told c.from.result c.in-Err.refusal c.from.ensures given))

pub returns-in-Err-clause-clean : goal.returns-in-Err-clause-clean
returns-in-Err-clause-clean g c = λ clean. omega (arith, c.in-Err.ensures.reads.spares.clean, clean)

-- the desk gave its verdict

pub returns-clause-clean : goal.returns-clause-clean
returns-clause-clean g c = λ clean. omega (arith, c.in-Ok.ensures.reads.spares.clean, clean)

-- the line of the verdict wasn't written

pub returns-clause-beginning : goal.returns-clause-beginning
returns-clause-beginning g c = λ clean.
    let found = c.args.found.now in
    OnErr-of_each _ _ _ _ (ShowsDesk g.S.Store c.args.desk.now) (λ owner cs. verdict_line (verdicts.verdict cs found) found)
    (λ owner cs was. ap (λ (v : Verdict). verdict_line v found) (c.in-Ok.ensures.shown clean owner cs was)) c.say_verdict.ensures.err
