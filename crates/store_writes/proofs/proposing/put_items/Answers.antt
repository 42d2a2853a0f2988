use Rattle.std.proofs.Common.{◌≡◌, ◌<◌, ◌+◌, ◌-◌, [], get_or, drop, length, slice_get, Some, subst, ◌∙◌, arith}
use Rattle.std.proofs.lemmas.Option.{slice_get-get_or}
use Rattle.sqlite.specs.Held.{state}
use Rattle.sqlite.specs.State.{HasCleanDisk}
use Rattle.sqlite.proofs.StateLemmas.{survives_then}
use Rattle.store_sql.specs.States.{Turns}
use Rattle.store_schema.specs.Tables.{desk_layout}
use Rattle.desk_history.specs.declared.rows.ProposalItem.TheVariants as items
use Rattle.desk_history.specs.Items.{items_from, items_of}
use Rattle.store_schema.specs.rows.Contents.{contents}
use Rattle.store_writes.specs.Steps.{contents_with}
use Rattle.store_writes.proofs.ItemLemmas.{one_put}
use Rattle.store_writes.proofs.proposing.put_items.Goals as goal

pub loop-place-preserved : goal.loop-place-preserved
loop-place-preserved g c =
    let first = state g.S.Store c.args.tx.now.conn.now in
    let mid = state g.S.Store c.loop-place.tx.conn.now in
    let new = state g.S.Store c.put_item.new.tx.conn.now in
    let all = items_of c.args.named.now in
    let n = c.loop-place.place in
    let before = c.loop-place.invariant in
    let did = c.in_ok-put_item.ensures in
    let low : n - 1 < length all = omega (arith, before.0, c.loop-place-test.true) in
    let next : n ≡ (n - 1) + 1 = omega (arith, c.loop-place-test.true) in
    let x = get_or all (n - 1) (items.Digest []) in
    let there : slice_get all (n - 1) ≡ Some x = slice_get-get_or all (n - 1) (items.Digest []) low in (
      omega (arith, before.0),
      did.same_reference ∙ before.1,
      survives_then first mid new (λ _. ⊥) (λ _. ⊥) (λ _. ⊥) (λ _ _ none. none) (λ _ _ none. none) before.2 did.survives,
      λ clean inside.
          let late : HasCleanDisk mid = omega (arith, did.survives.clean, clean) in
          let stood = before.3 late inside in
          one_put c.args.proposal n (n - 1) all x first mid new next there stood (did.value clean stood.inside x there),
    )

pub returns-clause-value : goal.returns-clause-value
returns-clause-value g c clean inside =
    let first = state g.S.Store c.args.tx.now.conn.now in
    let last = state g.S.Store c.loop-place.tx.conn.now in
    let all = items_of c.args.named.now in
    let none : c.loop-place.place ≡ 0 = omega (arith, c.loop-place-test.false) in
    subst (λ n. Turns desk_layout contents (contents_with (items_from c.args.proposal n (drop n all))) first last) none (c.loop-place.invariant.3 clean inside)
