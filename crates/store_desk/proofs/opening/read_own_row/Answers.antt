use Rattle.std.proofs.Common.{◌≡◌, true, rules, refl, subst, sym, arith}
use Rattle.sqlite.specs.Held.{Held, state}
use Rattle.sqlite.specs.State.{HasCleanDisk, KeepsCommit, Survives}
use Rattle.store_sql.proofs.CommitLemmas.{undone_shows}
use Rattle.store_desk.specs.Steps.{OnlyLooks, TellsInside}
use Rattle.store_desk.proofs.OpeningLemmas.{same_schema, told_before}
use Rattle.store_desk.proofs.opening.read_own_row.Goals as goal

pub returns-clause-looks : goal.returns-clause-looks
returns-clause-looks g c =
    let old = c.args.conn.now in
    let begun = state g.S.Store (record old { in_transaction = true }) in
    let last = c.own_row_of-read.new.tx.conn.now in
    let end = c.rollback.new.self.0 in
    let did = c.own_row_of-read.ensures in
    let spared : Survives begun (state g.S.Store last) (λ _. ⊥) = rw c.transaction-tx.ensures.begun at did.survives in
    let kept : HasCleanDisk (state g.S.Store last) → KeepsCommit begun (state g.S.Store last) = λ clean. (rw c.transaction-tx.ensures.begun at (did.kept clean)) refl in
    let late : HasCleanDisk (state g.S.Store end) → HasCleanDisk (state g.S.Store last) = λ clean. omega (arith, c.rollback.ensures.survives.clean, clean) in
    let spares : Survives (state g.S.Store old) (state g.S.Store c.conn-1.given.0) (λ _. ⊥) = search rules in
    let same : end ≡ c.conn-1.given.0 = search rules in
    subst (λ (x : Held _). OnlyLooks g.S.Store old x) same (record {
      shown = λ clean schema contents shows. undone_shows g.S.Store old last end schema contents (omega (arith, spared.clean, late clean)) (kept (late clean)) (c.rollback.ensures.undone clean) shows;
      schema = λ clean live. same_schema (state g.S.Store old) begun (state g.S.Store last) (state g.S.Store end) refl (λ there. there) (λ there. c.is_autocommit-settled.ensures.settled (search rules) there) (kept (late clean)) (c.rollback.ensures.undone clean) live;
      spares = subst (λ (x : Held _). Survives (state g.S.Store old) (state g.S.Store x) (λ _. ⊥)) (sym same) spares;
    })

pub returns-clause-told : goal.returns-clause-told
returns-clause-told g c =
    let old = c.args.conn.now in
    let last = c.own_row_of-read.new.tx.conn.now in
    let end = c.rollback.new.self.0 in
    let did = c.own_row_of-read.ensures in
    let told : HasCleanDisk (state g.S.Store last) → TellsInside g.S.Store (record old { in_transaction = true }) c.own_row_of-read.result = λ clean. rw c.transaction-tx.ensures.begun at (did.told clean) in
    let same : end ≡ c.conn-1.given.0 = search rules in
    subst (λ (x : Held _). HasCleanDisk (state g.S.Store x) → TellsInside g.S.Store old c.own_row_of-read.result)
    same (λ clean.
    let late : HasCleanDisk (state g.S.Store last) = omega (arith, c.rollback.ensures.survives.clean, clean) in
    told_before g.S.Store old c.own_row_of-read.result (told late))
