use Rattle.std.proofs.Common.{◌≡◌, ◌≢◌, ◌∙◌, rules, refl, sym, ap, subst, arith, ℕ, List}
use Rattle.sqlite.specs.Held.{Held, state}
use Rattle.sqlite.specs.State.{HasCleanDisk, KeepsCommit, Survives}
use Rattle.base.specs.declared.refusal.Refusal.TheVariants as refusals
use Rattle.desk_history.specs.Calls.{History}
use Rattle.store_desk.specs.Acts.{Acts, LeavesNext, Runs}
use Rattle.store_sql.proofs.CommitLemmas.{begun, failed_leaves, failed_shows, failed_spares, leaves_made, leaves_more, through, undone_shows, worked}
use Rattle.store_sql.specs.Faults.{refusal_of}
use Rattle.store_schema.specs.Tables.{desk_layout}
use Rattle.store_schema.specs.rows.Histories.{ShowsHistory, rows_of}
use Rattle.store_desk.proofs.CommitLemmas.{answered, committed, next_trees}
use Rattle.store_desk.proofs.acting.run.Goals as goal

-- not answered, and rolled back by the transaction's drop
pub returns-in-Err-clause-err : goal.returns-in-Err-clause-err
returns-in-Err-clause-err g c =
    let old = c.args.conn.now in
    let last = c.act.new.tx.conn.now in
    let did = c.in-Err.ensures in
    let spared : Survives (begun g.S.Store old) (state g.S.Store last) (λ _. ⊥) = rw c.transaction-tx.ensures.begun at did.survives in
    let kept : HasCleanDisk (state g.S.Store last) → KeepsCommit (begun g.S.Store old) (state g.S.Store last) = λ clean. (rw c.transaction-tx.ensures.begun at (did.kept clean)) refl in
    let same : c.drop-tx.new.self.0 ≡ c.conn-1.given.0 = search rules in
    subst (λ (x : Held _). HasCleanDisk (state g.S.Store x) → c.in-Err.failure ≢ refusals.Store → (owner : List ℕ) (cs : History) → ShowsHistory (state g.S.Store old) owner cs → ShowsHistory (state g.S.Store x) owner cs)
    same (λ clean other owner cs shows.
    let late : HasCleanDisk (state g.S.Store last) = omega (arith, c.drop-tx.ensures.survives.clean, clean) in
    undone_shows g.S.Store old last c.drop-tx.new.self.0 desk_layout (rows_of owner cs) (omega (arith, spared.clean, late)) (kept late) (c.drop-tx.ensures.undone clean) shows)

-- accepted, and the commit was made
pub returns-in-Ok-commit-clause-ok : goal.returns-in-Ok-commit-clause-ok
returns-in-Ok-commit-clause-ok g c =
    let old = c.args.conn.now in
    let call = c.args.call.now in
    let last = c.act.new.tx.conn.now in
    let e = c.in-Ok.ensures in
    let did = worked g.S.Store old _ last (Acts c.args.remembered call c.in-Ok.acted) c.transaction-tx.ensures.begun e.value e.inside e.kept e.survives in
    let same : c.commit.new.self.0 ≡ c.conn-then-is_accepted-1.given.0 = search rules in
    subst (λ (x : Held _). HasCleanDisk (state g.S.Store x) → Runs c.args.remembered call c.in-Ok.acted (state g.S.Store old) (state g.S.Store x)) same
    (λ clean. committed g.S.Store old last c.args.remembered call c.in-Ok.acted did c.commit.new.self.0
    (omega (arith, c.in-Ok-commit.ensures.survives.clean, clean)) (c.in-Ok-commit.ensures.ok clean).1)

pub returns-in-Ok-commit-clause-survives : goal.returns-in-Ok-commit-clause-survives
returns-in-Ok-commit-clause-survives g c =
    let old = c.args.conn.now in
    let call = c.args.call.now in
    let last = c.act.new.tx.conn.now in
    let acts = Acts c.args.remembered call c.in-Ok.acted in
    let e = c.in-Ok.ensures in
    let did = worked g.S.Store old _ last acts c.transaction-tx.ensures.begun e.value e.inside e.kept e.survives in
    let same : c.commit.new.self.0 ≡ c.conn-then-is_accepted-1.given.0 = search rules in
    subst (λ (x : Held _). Survives (state g.S.Store old) (state g.S.Store x) (LeavesNext (state g.S.Store old) c.args.remembered call)) same
    (leaves_made g.S.Store old last c.commit.new.self.0 acts (LeavesNext (state g.S.Store old) c.args.remembered call) did c.in-Ok-commit.ensures.survives
    (next_trees g.S.Store old last c.args.remembered call c.in-Ok.acted did (sym c.is_accepted.ensures ∙ c.if-is_accepted.true)))

-- accepted, and the commit failed

pub returns-in-Err-commit-clause-err : goal.returns-in-Err-commit-clause-err
returns-in-Err-commit-clause-err g c clean other =
    let old = c.args.conn.now in
    let last = c.act.new.tx.conn.now in
    let acts = Acts c.args.remembered c.args.call.now c.in-Ok.acted in
    let e = c.in-Ok.ensures in
    let did = worked g.S.Store old _ last acts c.transaction-tx.ensures.begun e.value e.inside e.kept e.survives in
    λ owner cs shows. failed_shows g.S.Store old last c.commit.new.self.0 c.conn-then-is_accepted-1.given.0 c.failed_commit.new.conn acts c.in-Err-commit.error did
    (search rules) c.in-Err-commit.ensures.survives c.in-Err-commit.ensures.err c.failed_commit.ensures.survives
    (λ late. c.failed_commit.ensures.open late (λ is. other (c.refusal.ensures ∙ ap refusal_of is))) desk_layout (rows_of owner cs) clean shows

pub returns-in-Err-commit-clause-unwritten : goal.returns-in-Err-commit-clause-unwritten
returns-in-Err-commit-clause-unwritten g c other =
    let old = c.args.conn.now in
    let last = c.act.new.tx.conn.now in
    let acts = Acts c.args.remembered c.args.call.now c.in-Ok.acted in
    let e = c.in-Ok.ensures in
    let did = worked g.S.Store old _ last acts c.transaction-tx.ensures.begun e.value e.inside e.kept e.survives in
    failed_spares g.S.Store old last c.commit.new.self.0 c.conn-then-is_accepted-1.given.0 c.failed_commit.new.conn acts c.in-Err-commit.error did
    (search rules) c.in-Err-commit.ensures.survives c.in-Err-commit.ensures.err c.failed_commit.ensures.survives
    (λ late. c.failed_commit.ensures.open late (λ is. other (c.refusal.ensures ∙ ap refusal_of is)))
    (λ db live may. g.met.S.Store.settled c.conn-then-is_accepted-1.given.0.store db live may) (λ live. g.met.S.Store.stays old.store live)

pub returns-in-Err-commit-clause-survives : goal.returns-in-Err-commit-clause-survives
returns-in-Err-commit-clause-survives g c =
    let old = c.args.conn.now in
    let call = c.args.call.now in
    let last = c.act.new.tx.conn.now in
    let acts = Acts c.args.remembered call c.in-Ok.acted in
    let e = c.in-Ok.ensures in
    let did = worked g.S.Store old _ last acts c.transaction-tx.ensures.begun e.value e.inside e.kept e.survives in
    failed_leaves g.S.Store old last c.commit.new.self.0 c.conn-then-is_accepted-1.given.0 c.failed_commit.new.conn acts c.in-Err-commit.error did
    (search rules) c.in-Err-commit.ensures.survives c.in-Err-commit.ensures.err c.failed_commit.ensures.survives
    (LeavesNext (state g.S.Store old) c.args.remembered call)
    (next_trees g.S.Store old last c.args.remembered call c.in-Ok.acted did (sym c.is_accepted.ensures ∙ c.if-is_accepted.true))

-- not accepted, and rolled back
pub returns-clause-ok : goal.returns-clause-ok
returns-clause-ok g c =
    let old = c.args.conn.now in
    let call = c.args.call.now in
    let last = c.act.new.tx.conn.now in
    let e = c.in-Ok.ensures in
    let did = worked g.S.Store old _ last (Acts c.args.remembered call c.in-Ok.acted) c.transaction-tx.ensures.begun e.value e.inside e.kept e.survives in
    let same : c.rollback.new.self.0 ≡ c.conn-2-1.given.0 = search rules in
    subst (λ (x : Held _). HasCleanDisk (state g.S.Store x) → Runs c.args.remembered call c.in-Ok.acted (state g.S.Store old) (state g.S.Store x)) same
    (λ clean. answered g.S.Store old last c.args.remembered call c.in-Ok.acted did c.rollback.new.self.0 c.rollback.ensures.survives
    (sym c.is_accepted.ensures ∙ c.if-is_accepted.false) (c.rollback.ensures.undone clean) clean)

pub returns-clause-survives : goal.returns-clause-survives
returns-clause-survives g c =
    let old = c.args.conn.now in
    let call = c.args.call.now in
    let end = c.rollback.new.self.0 in
    let e = c.in-Ok.ensures in
    let did = worked g.S.Store old _ c.act.new.tx.conn.now (Acts c.args.remembered call c.in-Ok.acted) c.transaction-tx.ensures.begun e.value e.inside e.kept e.survives in
    let same : c.rollback.new.self.0 ≡ c.conn-2-1.given.0 = search rules in
    subst (λ (x : Held _). Survives (state g.S.Store old) (state g.S.Store x) (LeavesNext (state g.S.Store old) c.args.remembered call)) same
    (leaves_more (LeavesNext (state g.S.Store old) c.args.remembered call) (state g.S.Store old) (state g.S.Store end)
    (through g.S.Store old c.act.new.tx.conn.now end did.spares c.rollback.ensures.survives))

pub returns-clause-idle : goal.returns-clause-idle
returns-clause-idle g c out =
    let old = c.args.conn.now in
    let call = c.args.call.now in
    let end = c.rollback.new.self.0 in
    let e = c.in-Ok.ensures in
    let did = worked g.S.Store old _ c.act.new.tx.conn.now (Acts c.args.remembered call c.in-Ok.acted) c.transaction-tx.ensures.begun e.value e.inside e.kept e.survives in
    let same : c.rollback.new.self.0 ≡ c.conn-2-1.given.0 = search rules in
    subst (λ (x : Held _). Survives (state g.S.Store old) (state g.S.Store x) (λ _. ⊥)) same
    (through g.S.Store old c.act.new.tx.conn.now end did.spares c.rollback.ensures.survives)
