use Rattle.std.proofs.Common.{◌≡◌, [], ◌∷◌, ◌++◌, ◌∙◌, ap, sym, subst, length, map, append_assoc, append-nil, arith}
use Rattle.std.specs.List.Sorted.{IsPermutation}
use Rattle.std.specs.Vec.Iter.{into_iter_items}
use Rattle.desk_history.specs.Shown.{shown_vote}
use Rattle.store_shown.proofs.LoopLemmas.{nothing_left}
use Rattle.store_shown.proofs.making.votes_in.Goals as goal

pub loop-row-preserved : goal.loop-row-preserved
loop-row-preserved c =
    let at = c.loop-row in
    let x = c.in-Some.row in
    let rest = into_iter_items c.next.new.self in
    let steps : into_iter_items at.row-iterator ≡ x ∷ rest = c.in-Some.ensures.steps.0 in
    let pushed : c.push.new.items.items ≡ at.votes.items ++ shown_vote x ∷ [] = c.in_ok-push.ensures ∙ ap (λ v. at.votes.items ++ v ∷ []) c.vote_in.ensures in (
      ap (λ l. l ++ map shown_vote rest) pushed ∙ append_assoc at.votes.items (shown_vote x ∷ []) (map shown_vote rest)
          ∙ ap (λ l. at.votes.items ++ map shown_vote l) (sym steps) ∙ at.invariant.0,
      let was = at.invariant.1 in
          let gone = c.in-Some.ensures.steps.1 in
          let short = ap length steps in
          omega arith,
    )

pub returns-clause-all : goal.returns-clause-all
returns-clause-all c =
    let at = c.loop-row in
    let empty : into_iter_items at.row-iterator ≡ [] = nothing_left _ (sym at.invariant.1 ∙ c.in-None.ensures.steps.0) in
    let all : at.votes.items ≡ map shown_vote c.args.rows.items =
    sym (append-nil at.votes.items) ∙ ap (λ l. at.votes.items ++ map shown_vote l) (sym empty) ∙ at.invariant.0 ∙ ap (map shown_vote) c.into_iter-row-iterator.ensures.into_iter_gives.0 in
    subst (λ l. IsPermutation l c.new.result) all c.new.ensures.same
