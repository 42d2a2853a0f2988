use Rattle.std.proofs.Common.{rules, ◌∙◌, refl, sym, subst, arith}
use Rattle.std.proofs.lemmas.List.{map_more}
use Rattle.sqlite.proofs.StateLemmas.{survives_then}
use Rattle.sqlite.specs.Held.{state}
use Rattle.sqlite.specs.State.{HasCleanDisk}
use Rattle.store_sql.specs.Effects.{CreatesAll}
use Rattle.store_sql.proofs.ContentLemmas.{keeps_then}
use Rattle.store_sql.proofs.TableLemmas.{creates_none, creates_then}
use Rattle.store_sql.proofs.writing.create_tables.Goals as goal

pub loop-text-init : goal.loop-text-init
loop-text-init g c =
    let first = state g.S.Store c.args.tx.now.conn.now in
    (refl, search rules, λ clean inside. (inside, record { was_open = λ o. o; committed = λ _. refl }, creates_none first inside))

pub loop-text-preserved : goal.loop-text-preserved
loop-text-preserved g c =
    let first = state g.S.Store c.args.tx.now.conn.now in
    let mid = state g.S.Store c.loop-text.tx.conn.now in
    let new = state g.S.Store c.create_table.new.tx.conn.now in
    let before = c.loop-text.invariant in
    let did = c.in_ok-create_table.ensures in (
      did.same_reference ∙ before.0,
      survives_then first mid new (λ _. ⊥) (λ _. ⊥) (λ _. ⊥) (λ _ _ none. none) (λ _ _ none. none) before.1 did.survives,
      λ clean inside.
          let late : HasCleanDisk mid = omega (arith, did.survives.clean, clean) in
          let stood = before.2 late inside in
          let now = did.inside clean stood.0 in (
            now.1,
            keeps_then first mid new stood.1 (did.kept clean stood.0),
            subst (λ l. CreatesAll l first new) (sym (map_more _ c.args.texts.now c.loop-text.text-index _ c.loop-text-test.true))
                (creates_then first mid new _ _ stood.2 (did.value clean stood.0)),
          ),
    )
