use Rattle.std.proofs.Common.{◌≡◌, ◌+◌, [], ◌∷◌, ◌++◌, ◌∙◌, ap, sym, subst, length, append_assoc, append-nil, arith, rules}
use Rattle.std.specs.Vec.Iter.{into_iter_items}
use Rattle.desk_history.specs.Tables.{placed_from}
use Rattle.store_shown.proofs.LoopLemmas.{nothing_left, placed, placed_more}
use Rattle.store_shown.proofs.making.placed_in.Goals as goal

pub loop-row-preserved : goal.loop-row-preserved
loop-row-preserved c =
    let at = c.loop-row in
    let k = c.args.request in
    let row = c.in-Some.row in
    let x = c.in_ok-component.component in
    let rest = into_iter_items c.next.new.self in
    let done = at.components.items in
    let steps : into_iter_items at.row-iterator ≡ row ∷ rest = c.in-Some.ensures.steps.0 in
    let count : c.len-place.result ≡ 0 + length done = search (rules, arith, c.len-place.ensures) in
    let stands : row ≡ placed k (0 + length done) x = subst (λ n. row ≡ placed k n x) count c.in_ok-component.ensures in
    let pushed : c.push.new.items.items ≡ done ++ x ∷ [] = c.in_ok-push.ensures in (
      ap (λ l. placed_from k 0 l ++ rest) pushed ∙ ap (λ l. l ++ rest) (placed_more k 0 done x) ∙ append_assoc (placed_from k 0 done) (placed k (0 + length done) x ∷ []) rest
          ∙ ap (λ r. placed_from k 0 done ++ r ∷ rest) (sym stands) ∙ ap (λ l. placed_from k 0 done ++ l) (sym steps) ∙ at.invariant.0,
      let was = at.invariant.1 in
          let gone = c.in-Some.ensures.steps.1 in
          let short = ap length steps in
          omega arith,
    )

pub returns : goal.returns
returns c =
    let at = c.loop-row in
    let k = c.args.request in
    let done = at.components.items in
    let empty : into_iter_items at.row-iterator ≡ [] = nothing_left _ (sym at.invariant.1 ∙ c.in-None.ensures.steps.0) in
    sym c.into_iter-row-iterator.ensures.into_iter_gives.0 ∙ sym at.invariant.0 ∙ ap (λ l. placed_from k 0 done ++ l) empty ∙ append-nil (placed_from k 0 done)
