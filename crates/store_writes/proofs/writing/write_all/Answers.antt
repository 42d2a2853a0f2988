use Rattle.std.proofs.Common.{◌∙◌, rules, refl, subst, arith}
use Rattle.sqlite.specs.State.{HasCleanDisk}
use Rattle.sqlite.specs.Held.{state}
use Rattle.sqlite.proofs.StateLemmas.{survives_then}
use Rattle.store_sql.specs.States.{Sees}
use Rattle.store_sql.proofs.StopLemmas.{changes_then, turns_none}
use Rattle.store_schema.specs.Tables.{desk_layout}
use Rattle.desk_history.specs.Tables.{Tables}
use Rattle.store_schema.specs.rows.Contents.{contents}
use Rattle.store_writes.proofs.WritesLemmas.{one_more}
use Rattle.store_writes.proofs.writing.write_all.Goals as goal

pub loop-row-init : goal.loop-row-init
loop-row-init g c =
    let first = state g.S.Store c.args.tx.now.conn.now in
    (refl, search rules, λ clean inside. turns_none desk_layout contents first inside)

pub loop-row-preserved : goal.loop-row-preserved
loop-row-preserved g c =
    let first = state g.S.Store c.args.tx.now.conn.now in
    let mid = state g.S.Store c.loop-row.tx.conn.now in
    let new = state g.S.Store c.write.new.tx.conn.now in
    let before = c.loop-row.invariant in
    let did = c.in_ok-write.ensures in (
      did.same_reference ∙ before.0,
      survives_then first mid new (λ _. ⊥) (λ _. ⊥) (λ _. ⊥) (λ _ _ none. none) (λ _ _ none. none) before.1 did.survives,
      λ clean inside.
          let late : HasCleanDisk mid = omega (arith, did.survives.clean, clean) in
          let stood = before.2 late inside in
          let row = c.row-item.result in
          let it = changes_then desk_layout contents first mid new _ _ stood (did.value clean stood.inside) in
          record {
            is_open = it.is_open;
            inside = it.inside;
            kept = it.kept;
            value = λ t sees. subst (λ (x : Tables). Sees desk_layout new (contents x)) (one_more t c.args.rows.now c.loop-row.row-index row c.loop-row-test.true c.row-item.is) (it.value t sees);
          },
    )
