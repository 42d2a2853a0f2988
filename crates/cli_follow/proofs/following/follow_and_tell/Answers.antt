use Rattle.std.proofs.Common.{◌≡◌, ℕ}
use Rattle.store_minutes.specs.Faults.{IsCaused}
use Rattle.store_minutes.specs.declared.auditing.AuditFault.TheVariants.{Line}
use Rattle.store_follow.specs.Runs.{HasRun, IsWrongLine}
use Rattle.cli_follow.proofs.RunLemmas.{fault_of, run_of, stopped_runs, told_runs}
use Rattle.cli_follow.proofs.following.follow_and_tell.Goals as goal

-- all was followed

pub returns-in-Ok-result-clause-ran : goal.returns-in-Ok-result-clause-ran
returns-in-Ok-result-clause-ran g c =
    told_runs g.S.Store c.args.desk c.in-Ok.run'.desk c.tell.result.desk c.in-Ok-result.calls _ _ _ c.follow.new.watch c.tell.result.work
    (λ clean s b. run_of (HasRun g.S.Store c.in-Ok.run'.desk s) c.in-Ok.run'.result c.in-Ok-result.calls c.in-Ok-result.is (c.in-Ok.ensures.ok clean s b))
    c.in-Ok.ensures.clean c.tell.ensures.told

-- it stopped before

pub returns-in-Err-result-clause-ran : goal.returns-in-Err-result-clause-ran
returns-in-Err-result-clause-ran g c =
    stopped_runs g.S.Store c.args.desk c.in-Ok.run'.desk _ _ c.follow.new.watch c.in-Err-result.fault c.fault_row.result c.fault_row.ensures
    (λ clean s b. fault_of (λ fault. (n : ℕ) → fault ≡ Line n → IsWrongLine g.S.Store c.args.desk c.in-Ok.run'.desk s n)
    c.in-Ok.run'.result c.in-Err-result.fault c.in-Err-result.is (c.in-Ok.ensures.wrong clean s b))
    c.in-Ok.ensures.stopped c.in-Ok.ensures.clean
    (fault_of (IsCaused c.follow.new.watch) c.in-Ok.run'.result c.in-Err-result.fault c.in-Err-result.is c.in-Ok.ensures.caused)
