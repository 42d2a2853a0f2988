use Rattle.cli_audit.proofs.ReadingLemmas.{kept, no_store}
use Rattle.cli_audit.proofs.digests.summary_of.Goals as goal

-- each export keeps what the desk shows, so a stop of the next leaves it

pub returns-in_err-dbx-clause-left : goal.returns-in_err-dbx-clause-left
returns-in_err-dbx-clause-left g c =
    kept g.S.Store c.args.desk.now c.digest_of.new.desk c.digest_of-2.new.desk c.in_err-dbx.ensures.clean
    (λ clean. c.in_ok-minutes.ensures.same clean (no_store c.in_ok-minutes.minutes)) c.in_err-dbx.ensures.left

pub returns-in_err-db-clause-left : goal.returns-in_err-db-clause-left
returns-in_err-db-clause-left g c =
    kept g.S.Store c.args.desk.now c.digest_of-2.new.desk c.digest_of-3.new.desk c.in_err-db.ensures.clean
    (λ clean owner cs was. c.in_ok-dbx.ensures.same clean (no_store c.in_ok-dbx.dbx) owner cs
    (c.in_ok-minutes.ensures.same (c.in_ok-dbx.ensures.clean clean) (no_store c.in_ok-minutes.minutes) owner cs was)) c.in_err-db.ensures.left

pub returns-in_err-level-clause-left : goal.returns-in_err-level-clause-left
returns-in_err-level-clause-left g c =
    kept g.S.Store c.args.desk.now c.digest_of-3.new.desk c.digest_of-4.new.desk c.in_err-level.ensures.clean
    (λ clean owner cs was. c.in_ok-db.ensures.same clean (no_store c.in_ok-db.db) owner cs
    (c.in_ok-dbx.ensures.same (c.in_ok-db.ensures.clean clean) (no_store c.in_ok-dbx.dbx) owner cs
    (c.in_ok-minutes.ensures.same (c.in_ok-dbx.ensures.clean (c.in_ok-db.ensures.clean clean)) (no_store c.in_ok-minutes.minutes) owner cs was))) c.in_err-level.ensures.left

pub returns-clause-left : goal.returns-clause-left
returns-clause-left g c =
    kept g.S.Store c.args.desk.now c.digest_of-3.new.desk c.digest_of-4.new.desk c.in_ok-level.ensures.clean
    (λ clean owner cs was. c.in_ok-db.ensures.same clean (no_store c.in_ok-db.db) owner cs
    (c.in_ok-dbx.ensures.same (c.in_ok-db.ensures.clean clean) (no_store c.in_ok-dbx.dbx) owner cs
    (c.in_ok-minutes.ensures.same (c.in_ok-dbx.ensures.clean (c.in_ok-db.ensures.clean clean)) (no_store c.in_ok-minutes.minutes) owner cs was))) c.in_ok-level.ensures.left
