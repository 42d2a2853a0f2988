use Rattle.std.proofs.Common.{◌≡◌, None, Some, ℕ, List, rules, subst, arith}
use Rattle.sqlite.specs.Held.{Held, state}
use Rattle.sqlite.specs.State.{HasCleanDisk, Survives}
use Rattle.desk_history.specs.Calls.{History}
use Rattle.store_schema.specs.Tables.{desk_layout}
use Rattle.store_schema.specs.rows.Histories.{ShowsHistory, rows_of}
use Rattle.store_sql.proofs.CommitLemmas.{leaves_made, leaves_more, through, undone_shows, worked}
use Rattle.store_first_rules.specs.Acts.{ActsFirst, LeavesFollowed, RunsFirst}
use Rattle.store_first_rules.proofs.ActingLemmas.{committed, followed_trees, passed}
use Rattle.store_first_rules.proofs.acting.run.Goals as goal

-- not followed, and rolled back

pub returns-in-Ok-None-clause-ok : goal.returns-in-Ok-None-clause-ok
returns-in-Ok-None-clause-ok g c =
    let old = c.args.conn.now in
    let r = c.args.remembered.now in
    let call = c.args.call.now in
    let last = c.act.new.tx.conn.now in
    let e = c.in-Ok-None.ensures in
    let did = worked g.S.Store old _ last (ActsFirst r call c.args.told.now None) c.transaction-tx.ensures.begun (rw c.in-Ok-None.field-0-is at e.value) e.inside e.kept e.survives in
    let same : c.rollback.new.self.0 ≡ c.conn-1.given.0 = search rules in
    subst (λ (x : Held _). HasCleanDisk (state g.S.Store x) → RunsFirst r call c.args.told.now None (state g.S.Store old) (state g.S.Store x)) same
    (λ clean. passed g.S.Store old last c.rollback.new.self.0 r call c.args.told.now did (omega (arith, c.rollback.ensures.survives.clean, clean)))

pub returns-in-Ok-None-clause-same : goal.returns-in-Ok-None-clause-same
returns-in-Ok-None-clause-same g c =
    let old = c.args.conn.now in
    let last = c.act.new.tx.conn.now in
    let e = c.in-Ok-None.ensures in
    let did = worked g.S.Store old _ last (ActsFirst c.args.remembered.now c.args.call.now c.args.told.now None) c.transaction-tx.ensures.begun (rw c.in-Ok-None.field-0-is at e.value) e.inside e.kept e.survives in
    let same : c.rollback.new.self.0 ≡ c.conn-1.given.0 = search rules in
    subst (λ (x : Held _). HasCleanDisk (state g.S.Store x) → (owner : List ℕ) (cs : History) → ShowsHistory (state g.S.Store old) owner cs → ShowsHistory (state g.S.Store x) owner cs) same
    (λ clean owner cs shows.
    let late : HasCleanDisk (state g.S.Store last) = omega (arith, c.rollback.ensures.survives.clean, clean) in
    undone_shows g.S.Store old last c.rollback.new.self.0 desk_layout (rows_of owner cs) (omega (arith, did.spares.clean, late)) (did.kept late) (c.rollback.ensures.undone clean) shows)

pub returns-in-Ok-None-clause-idle : goal.returns-in-Ok-None-clause-idle
returns-in-Ok-None-clause-idle g c =
    let old = c.args.conn.now in
    let last = c.act.new.tx.conn.now in
    let e = c.in-Ok-None.ensures in
    let did = worked g.S.Store old _ last (ActsFirst c.args.remembered.now c.args.call.now c.args.told.now None) c.transaction-tx.ensures.begun (rw c.in-Ok-None.field-0-is at e.value) e.inside e.kept e.survives in
    let same : c.rollback.new.self.0 ≡ c.conn-1.given.0 = search rules in
    subst (λ (x : Held _). Survives (state g.S.Store old) (state g.S.Store x) (λ _. ⊥)) same
    (through g.S.Store old last c.rollback.new.self.0 did.spares c.rollback.ensures.survives)

pub returns-in-Ok-None-clause-survives : goal.returns-in-Ok-None-clause-survives
returns-in-Ok-None-clause-survives g c =
    let old = c.args.conn.now in
    let last = c.act.new.tx.conn.now in
    let left = LeavesFollowed (state g.S.Store old) c.args.remembered.now c.args.call.now c.args.told.now in
    let e = c.in-Ok-None.ensures in
    let did = worked g.S.Store old _ last (ActsFirst c.args.remembered.now c.args.call.now c.args.told.now None) c.transaction-tx.ensures.begun (rw c.in-Ok-None.field-0-is at e.value) e.inside e.kept e.survives in
    let same : c.rollback.new.self.0 ≡ c.conn-1.given.0 = search rules in
    subst (λ (x : Held _). Survives (state g.S.Store old) (state g.S.Store x) left) same
    (leaves_more left (state g.S.Store old) (state g.S.Store c.rollback.new.self.0) (through g.S.Store old last c.rollback.new.self.0 did.spares c.rollback.ensures.survives))

-- followed, and the commit was made

pub returns-in-Ok-clause-ok : goal.returns-in-Ok-clause-ok
returns-in-Ok-clause-ok g c =
    let old = c.args.conn.now in
    let r = c.args.remembered.now in
    let call = c.args.call.now in
    let last = c.act.new.tx.conn.now in
    let later = c.in-Ok-Some.later in
    let e = c.in-Ok-Some.ensures in
    let did = worked g.S.Store old _ last (ActsFirst r call c.args.told.now (Some later)) c.transaction-tx.ensures.begun (rw c.in-Ok-Some.field-0-is at e.value) e.inside e.kept e.survives in
    let same : c.commit.new.self.0 ≡ c.conn-2-1.given.0 = search rules in
    subst (λ (x : Held _). HasCleanDisk (state g.S.Store x) → RunsFirst r call c.args.told.now (Some later) (state g.S.Store old) (state g.S.Store x)) same
    (λ clean. committed g.S.Store old last c.commit.new.self.0 r call c.args.told.now later did
    (omega (arith, c.in-Ok.ensures.survives.clean, clean)) (c.in-Ok.ensures.ok clean).1)

pub returns-in-Ok-clause-survives : goal.returns-in-Ok-clause-survives
returns-in-Ok-clause-survives g c =
    let old = c.args.conn.now in
    let r = c.args.remembered.now in
    let call = c.args.call.now in
    let last = c.act.new.tx.conn.now in
    let later = c.in-Ok-Some.later in
    let left = LeavesFollowed (state g.S.Store old) r call c.args.told.now in
    let acts = ActsFirst r call c.args.told.now (Some later) in
    let e = c.in-Ok-Some.ensures in
    let did = worked g.S.Store old _ last acts c.transaction-tx.ensures.begun (rw c.in-Ok-Some.field-0-is at e.value) e.inside e.kept e.survives in
    let same : c.commit.new.self.0 ≡ c.conn-2-1.given.0 = search rules in
    subst (λ (x : Held _). Survives (state g.S.Store old) (state g.S.Store x) left) same
    (leaves_made g.S.Store old last c.commit.new.self.0 acts left did c.in-Ok.ensures.survives
    (followed_trees g.S.Store old last c.commit.new.self.0 r call c.args.told.now later did))

-- followed, and the commit failed
pub returns-in-Err-commit-clause-survives : goal.returns-in-Err-commit-clause-survives
returns-in-Err-commit-clause-survives g c =
    let old = c.args.conn.now in
    let r = c.args.remembered.now in
    let call = c.args.call.now in
    let last = c.act.new.tx.conn.now in
    let later = c.in-Ok-Some.later in
    let left = LeavesFollowed (state g.S.Store old) r call c.args.told.now in
    let acts = ActsFirst r call c.args.told.now (Some later) in
    let e = c.in-Ok-Some.ensures in
    let did = worked g.S.Store old _ last acts c.transaction-tx.ensures.begun (rw c.in-Ok-Some.field-0-is at e.value) e.inside e.kept e.survives in
    let same : c.commit.new.self.0 ≡ c.conn-2-1.given.0 = search rules in
    subst (λ (x : Held _). Survives (state g.S.Store old) (state g.S.Store x) left) same
    (leaves_made g.S.Store old last c.commit.new.self.0 acts left did c.in-Err-commit.ensures.survives
    (followed_trees g.S.Store old last c.commit.new.self.0 r call c.args.told.now later did))
