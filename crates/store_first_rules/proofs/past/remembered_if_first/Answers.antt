use Rattle.std.proofs.Common.{◌≡◌, rules, refl, subst, arith, ℕ, List}
use Rattle.std.specs.Prelude.{IfOk}
use Rattle.sqlite.specs.Held.{Held, state}
use Rattle.sqlite.specs.State.{HasCleanDisk, KeepsCommit, Survives}
use Rattle.store_schema.specs.rows.Histories.{ShowsHistory, rows_of}
use Rattle.store_schema.specs.Tables.{desk_layout}
use Rattle.desk_history.specs.Calls.{History}
use Rattle.store_sql.proofs.CommitLemmas.{begun, through, undone_shows}
use Rattle.store_first_rules.specs.Pasts.{TellsPast}
use Rattle.store_first_rules.proofs.PastLemmas.{read_past}
use Rattle.store_first_rules.proofs.past.remembered_if_first.Goals as goal

pub returns-clause-same : goal.returns-clause-same
returns-clause-same g c =
    let old = c.args.conn.now in
    let last = c.read_past-read.new.tx.conn.now in
    let did = c.read_past-read.ensures in
    let spared : Survives (begun g.S.Store old) (state g.S.Store last) (λ _. ⊥) = rw c.transaction-tx.ensures.begun at did.survives in
    let kept : HasCleanDisk (state g.S.Store last) → KeepsCommit (begun g.S.Store old) (state g.S.Store last) = λ clean. (rw c.transaction-tx.ensures.begun at (did.kept clean)) refl in
    let same : c.rollback.new.self.0 ≡ c.conn-1.given.0 = search rules in
    subst (λ (x : Held _). HasCleanDisk (state g.S.Store x) → (owner : List ℕ) (cs : History) → ShowsHistory (state g.S.Store old) owner cs → ShowsHistory (state g.S.Store x) owner cs)
    same (λ clean owner cs shows.
    let late : HasCleanDisk (state g.S.Store last) = omega (arith, c.rollback.ensures.survives.clean, clean) in
    undone_shows g.S.Store old last c.rollback.new.self.0 desk_layout (rows_of owner cs) (omega (arith, spared.clean, late)) (kept late) (c.rollback.ensures.undone clean) shows)

pub returns-clause-told : goal.returns-clause-told
returns-clause-told g c =
    let old = c.args.conn.now in
    let last = c.read_past-read.new.tx.conn.now in
    let did = c.read_past-read.ensures in
    let spared : Survives (begun g.S.Store old) (state g.S.Store last) (λ _. ⊥) = rw c.transaction-tx.ensures.begun at did.survives in
    let same : c.rollback.new.self.0 ≡ c.conn-1.given.0 = search rules in
    subst (λ (x : Held _). HasCleanDisk (state g.S.Store x) → IfOk c.read_past-read.result (TellsPast (state g.S.Store old)))
    same (λ clean. let late : HasCleanDisk (state g.S.Store last) = omega (arith, c.rollback.ensures.survives.clean, clean) in
    read_past g.S.Store old last spared late c.read_past-read.result
    ((rw c.transaction-tx.ensures.begun at (did.value late)) refl) ((rw c.transaction-tx.ensures.begun at (did.inside late)) refl))

pub returns-clause-survives : goal.returns-clause-survives
returns-clause-survives g c =
    let old = c.args.conn.now in
    let last = c.read_past-read.new.tx.conn.now in
    let did = c.read_past-read.ensures in
    let spared : Survives (begun g.S.Store old) (state g.S.Store last) (λ _. ⊥) = rw c.transaction-tx.ensures.begun at did.survives in
    let same : c.rollback.new.self.0 ≡ c.conn-1.given.0 = search rules in
    subst (λ (x : Held _). Survives (state g.S.Store old) (state g.S.Store x) (λ _. ⊥)) same
    (through g.S.Store old last c.rollback.new.self.0 spared c.rollback.ensures.survives)
