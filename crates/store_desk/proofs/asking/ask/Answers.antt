use Rattle.std.proofs.Common.{◌≡◌, rules, refl, subst, arith, ℕ, List}
use Rattle.std.specs.Prelude.{IfOk}
use Rattle.sqlite.specs.Held.{Held, state}
use Rattle.sqlite.specs.State.{HasCleanDisk, KeepsCommit, Survives}
use Rattle.store_schema.specs.rows.Histories.{ShowsHistory, rows_of}
use Rattle.desk_history.specs.Calls.{History}
use Rattle.desk_history.specs.Formed.{IsHistory}
use Rattle.store_sql.proofs.CommitLemmas.{begun, undone_shows}
use Rattle.store_schema.specs.Tables.{desk_layout}
use Rattle.store_exports.specs.Exporting.{StaysOf}
use Rattle.store_exports.proofs.StepLemmas.{undone}
use Rattle.store_desk.proofs.QuestionLemmas.{read_told}
use Rattle.store_desk.proofs.asking.ask.Goals as goal

pub returns-clause-same : goal.returns-clause-same
returns-clause-same g c =
    let old = c.args.conn.now in
    let last = c.read-read.new.tx.conn.now in
    let did = c.read-read.ensures in
    let spared : Survives (begun g.S.Store old) (state g.S.Store last) (λ _. ⊥) = rw c.transaction-tx.ensures.begun at did.survives in
    let kept : HasCleanDisk (state g.S.Store last) → KeepsCommit (begun g.S.Store old) (state g.S.Store last) = λ clean. (rw c.transaction-tx.ensures.begun at (did.kept clean)) refl in
    let same : c.rollback.new.self.0 ≡ c.conn-1.given.0 = search rules in
    subst (λ (x : Held _). HasCleanDisk (state g.S.Store x) → (owner : List ℕ) (cs : History) → ShowsHistory (state g.S.Store old) owner cs → ShowsHistory (state g.S.Store x) owner cs)
    same (λ clean owner cs shows.
    let late : HasCleanDisk (state g.S.Store last) = omega (arith, c.rollback.ensures.survives.clean, clean) in
    undone_shows g.S.Store old last c.rollback.new.self.0 desk_layout (rows_of owner cs) (omega (arith, spared.clean, late)) (kept late) (c.rollback.ensures.undone clean) shows)

pub returns-clause-ok : goal.returns-clause-ok
returns-clause-ok g c =
    let old = c.args.conn.now in
    let question = c.args.question.now in
    let last = c.read-read.new.tx.conn.now in
    let did = c.read-read.ensures in
    let spared : Survives (begun g.S.Store old) (state g.S.Store last) (λ _. ⊥) = rw c.transaction-tx.ensures.begun at did.survives in
    let same : c.rollback.new.self.0 ≡ c.conn-1.given.0 = search rules in
    subst (λ (x : Held _). HasCleanDisk (state g.S.Store x) → IfOk c.read-read.result (λ answer. (owner : List ℕ) (cs : History) → IsHistory cs
    → ShowsHistory (state g.S.Store old) owner cs → g.Q.Question.tells question answer owner cs))
    same (λ clean. let late : HasCleanDisk (state g.S.Store last) = omega (arith, c.rollback.ensures.survives.clean, clean) in
    read_told g.S.Store old last (g.Q.Question.tells question) c.read-read.result spared late
    ((rw c.transaction-tx.ensures.begun at (did.value late)) refl) ((rw c.transaction-tx.ensures.begun at (did.inside late)) refl))

pub returns-clause-stays : goal.returns-clause-stays
returns-clause-stays g c =
    let old = c.args.conn.now in
    let last = c.read-read.new.tx.conn.now in
    let did = c.read-read.ensures in
    let spared : Survives (begun g.S.Store old) (state g.S.Store last) (λ _. ⊥) = rw c.transaction-tx.ensures.begun at did.survives in
    let kept : HasCleanDisk (state g.S.Store last) → KeepsCommit (begun g.S.Store old) (state g.S.Store last) = λ clean. (rw c.transaction-tx.ensures.begun at (did.kept clean)) refl in
    let same : c.rollback.new.self.0 ≡ c.conn-1.given.0 = search rules in
    subst (λ (x : Held _). StaysOf (state g.S.Store old) (state g.S.Store x)) same
    (undone g.S.Store old last c.rollback.new.self.0 c.rollback.ensures.ended spared c.rollback.ensures.survives kept c.rollback.ensures.undone)
