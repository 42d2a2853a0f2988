use Rattle.std.proofs.Common.{◌≡◌, None, Some, arith}
use Rattle.sqlite.specs.Held.{state}
use Rattle.sqlite.specs.State.{HasCleanDisk}
use Rattle.store_schema.specs.rows.Histories.{HoldsHistory}
use Rattle.store_first_rules.specs.declared.desk.FirstDesk.{FirstDesk}
use Rattle.store_first_rules.proofs.DeskLemmas.{resumes, still_leaves}
use Rattle.store_first_rules.proofs.desk.FirstDesk.resume.Goals as goal

pub returns-in-Ok-Some-clause-shown : goal.returns-in-Ok-Some-clause-shown
returns-in-Ok-Some-clause-shown g c clean owner cs was =
    let new : FirstDesk _ = record { alloc = c.args.alloc; conn = c.remembered_if_first.new.conn; remembered = c.in-Ok-Some.remembered } in
    let told = (rw c.in-Ok-Some.field-0-is at c.in-Ok-Some.ensures.told) clean in
    resumes g.S.Store c.args.desk new (rw c.release-conn.ensures at c.in-Ok-Some.ensures.survives) (rw c.release-conn.ensures at told)
    (rw c.release-conn.ensures at (c.in-Ok-Some.ensures.same clean)) owner cs was

pub returns-in-Ok-clause-shown : goal.returns-in-Ok-clause-shown
returns-in-Ok-clause-shown g c clean owner cs was =
    let mid : HasCleanDisk (state g.S.Store c.remembered_if_first.new.conn) = c.in-Ok.ensures.clean clean in
    let told = rw c.release-conn.ensures at ((rw c.in-Ok-None.field-0-is at c.in-Ok-None.ensures.told) mid) in
    let same = rw c.release-conn.ensures at (c.in-Ok-None.ensures.same mid) in
    let spares = rw c.release-conn.ensures at c.in-Ok-None.ensures.survives in (
      c.in-Ok.ensures.shown clean owner cs was.history (same owner cs was.shows)
          (still_leaves (λ db. HoldsHistory db owner cs) (state g.S.Store c.args.desk.conn) (state g.S.Store c.remembered_if_first.new.conn) spares was.left),
      told owner cs was.shows,
    )

pub returns-in-Err-opened-clause-left : goal.returns-in-Err-opened-clause-left
returns-in-Err-opened-clause-left g c owner cs was clean db may =
    let mid : HasCleanDisk (state g.S.Store c.remembered_if_first.new.conn) = c.in-Err-opened.ensures.cleared clean in
    let same = rw c.release-conn.ensures at (c.in-Ok-None.ensures.same mid) in
    let spares = rw c.release-conn.ensures at c.in-Ok-None.ensures.survives in
    still_leaves (λ t. HoldsHistory t owner cs) (state g.S.Store c.remembered_if_first.new.conn) (state g.S.Store c.in-Err-opened.refused.1)
    (c.in-Err-opened.ensures.spared owner cs (same owner cs was.shows))
    (still_leaves (λ t. HoldsHistory t owner cs) (state g.S.Store c.args.desk.conn) (state g.S.Store c.remembered_if_first.new.conn) spares was.left) clean db may

pub returns-in-Err-clause-left : goal.returns-in-Err-clause-left
returns-in-Err-clause-left g c owner cs was =
    still_leaves (λ t. HoldsHistory t owner cs) (state g.S.Store c.args.desk.conn) (state g.S.Store c.remembered_if_first.new.conn) (rw c.release-conn.ensures at c.in-Err.ensures.survives) was.left

-- a clean disk was clean before

pub returns-in-Ok-Some-clause-clean : goal.returns-in-Ok-Some-clause-clean
returns-in-Ok-Some-clause-clean g c clean = let s = rw c.release-conn.ensures at c.in-Ok-Some.ensures.survives in omega (arith, s.clean, clean)

pub returns-in-Ok-clause-clean : goal.returns-in-Ok-clause-clean
returns-in-Ok-clause-clean g c clean =
    let mid : HasCleanDisk (state g.S.Store c.remembered_if_first.new.conn) = c.in-Ok.ensures.clean clean in
    let s = rw c.release-conn.ensures at c.in-Ok-None.ensures.survives in
    omega (arith, s.clean, mid)

pub returns-in-Err-opened-clause-cleared : goal.returns-in-Err-opened-clause-cleared
returns-in-Err-opened-clause-cleared g c clean =
    let mid : HasCleanDisk (state g.S.Store c.remembered_if_first.new.conn) = c.in-Err-opened.ensures.cleared clean in
    let s = rw c.release-conn.ensures at c.in-Ok-None.ensures.survives in
    omega (arith, s.clean, mid)

pub returns-in-Err-clause-cleared : goal.returns-in-Err-clause-cleared
returns-in-Err-clause-cleared g c clean = let s = rw c.release-conn.ensures at c.in-Err.ensures.survives in omega (arith, s.clean, clean)
