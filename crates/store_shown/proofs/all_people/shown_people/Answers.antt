use Rattle.std.proofs.Common.{◌≡◌, [], ◌∷◌, ◌++◌, ◌∙◌, ap, sym, length, map, append_assoc, append-nil, arith}
use Rattle.std.specs.Vec.Iter.{into_iter_items}
use Rattle.desk_history.specs.PeopleShown.{shown_person}
use Rattle.store_shown.proofs.LoopLemmas.{nothing_left}
use Rattle.store_shown.proofs.all_people.shown_people.Goals as goal

pub loop-person-preserved : goal.loop-person-preserved
loop-person-preserved c =
    let at = c.loop-person in
    let x = c.in-Some.person in
    let rest = into_iter_items c.next.new.self in
    let steps : into_iter_items at.person-iterator ≡ x ∷ rest = c.in-Some.ensures.steps.0 in
    let pushed : c.push.new.items.items ≡ at.shown.items ++ shown_person x ∷ [] = c.in_ok-push.ensures ∙ ap (λ v. at.shown.items ++ v ∷ []) c.shown_person.ensures in (
      ap (λ l. l ++ map shown_person rest) pushed ∙ append_assoc at.shown.items (shown_person x ∷ []) (map shown_person rest)
          ∙ ap (λ l. at.shown.items ++ map shown_person l) (sym steps) ∙ at.invariant.0,
      let was = at.invariant.1 in
          let gone = c.in-Some.ensures.steps.1 in
          let short = ap length steps in
          omega arith,
    )

pub returns : goal.returns
returns c =
    let at = c.loop-person in
    let empty : into_iter_items at.person-iterator ≡ [] = nothing_left _ (sym at.invariant.1 ∙ c.in-None.ensures.steps.0) in
    sym (append-nil at.shown.items) ∙ ap (λ l. at.shown.items ++ map shown_person l) (sym empty) ∙ at.invariant.0 ∙ ap (map shown_person) c.into_iter-person-iterator.ensures.into_iter_gives.0
