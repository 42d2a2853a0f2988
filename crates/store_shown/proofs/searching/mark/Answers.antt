use Rattle.std.proofs.Common.{◌≡◌, ◌<◌, true, length, set, subst, sym, ◌∙◌, arith}
use Rattle.std.proofs.lemmas.List.{take_all}
use Rattle.std.proofs.lemmas.List.Elements.{All-nil, All-same}
use Rattle.store_shown.specs.Searching.{is_marked}
use Rattle.store_shown.proofs.SearchLemmas.{keeps_all, keeps_set, keeps_then, marked_one, numbers_more}
use Rattle.store_shown.proofs.searching.mark.Goals as goal

pub loop-number-init : goal.loop-number-init
loop-number-init c = (All-nil (λ k. is_marked c.args.marks.now.items k ≡ true), keeps_all c.args.marks.now.items)

pub loop-number-preserved : goal.loop-number-preserved
loop-number-preserved c =
    let at = c.loop-number in
    let old = at.marks.items in
    let k = c.value-place.result in
    let low : k < length old = omega (arith, c.if-len-place.false) in
    let new = set old k true in (
      numbers_more old new (keeps_set old k low) c.args.numbers.now at.number-index c.number-item.result c.loop-number-test.true at.invariant.0 (subst (λ n. is_marked new n ≡ true) (c.value-place.ensures.value ∙ c.number-item.is) (marked_one old k low)),
      keeps_then c.args.marks.now.items old new at.invariant.1 (keeps_set old k low),
    )

pub returns-clause-marked : goal.returns-clause-marked
returns-clause-marked c =
    let items = c.args.numbers.now in
    let last = c.loop-number.number-index in
    All-same (λ k. is_marked c.loop-number.marks.items k ≡ true) items _ (sym (take_all last items c.loop-number-test.false)) c.loop-number.invariant.0

pub returns-clause-keeps : goal.returns-clause-keeps
returns-clause-keeps c = c.loop-number.invariant.1
