-- Lists in order that have the same elements, and digests put in order.
use Rattle.std.specs.Prelude.{nat_eq}
use Rattle.std.proofs.Common.{◌≡◌, ◌⊎◌, ℕ, zero, suc, List, [], ◌∷◌, refl, sym, ap, ap₂, ◌∙◌, subst, inl, inr, arith}
use Rattle.std.specs.List.{AllByRecursion, Contains}
use Rattle.std.specs.List.Sorted.{IsStrictlySortedBy}
use Rattle.std.specs.Ordering.{ordering_reverse}
use Rattle.std.specs.declared.cmp.Ordering.{Ordering}
use Rattle.std.specs.declared.cmp.Ordering.TheVariants.{Less}
use Rattle.std.specs.Cmp.{IsTotalOrder}
use Rattle.std.specs.List.Retain.{IsFiltered, DiffersFromLast}
use Rattle.std.specs.List.Sorted.{IsPermutation, IsSorted}
use Rattle.std.specs.Ordering.{nat_cmp}
use Rattle.std.specs.Cmp.Lexicographic.{pointwise, slice_cmp, on_texts, on_texts_equal, same_text, texts_ties}
use Rattle.std.proofs.lemmas.List.Filters.{dedup_is}
use Rattle.std.proofs.lemmas.List.Kept.{IsStrictlySortedBy-dedup, Contains-dedup, Contains-from_dedup}
use Rattle.std.proofs.lemmas.List.Sorted.{Contains-permutation, IsPermutation-sym}
use Rattle.base.specs.Digests.{IsArranged}

Contains-head : {X : Type 0} (x : X) (xs : List X) → Contains (x ∷ xs) x
Contains-head x xs = (0, omega arith, refl)

Contains-later : {X : Type 0} (x d : X) (xs : List X) → Contains xs d → Contains (x ∷ xs) d
Contains-later x d xs h = let below = h.1 in (suc h.0, omega arith, h.2)

-- an element is the first, or comes after it
Contains-cases : {X : Type 0} (x d : X) (xs : List X) → Contains (x ∷ xs) d → (x ≡ d) ⊎ Contains xs d
Contains-cases x d xs (zero, below, is) = inl is
Contains-cases x d xs (suc k, below, is) = inr (k, omega arith, is)

-- an element of a list has what all have
All-at : {X : Type 0} (P : X → Type 0) (xs : List X) (d : X) → AllByRecursion P xs → Contains xs d → P d
All-at P [] d all h = let below = h.1 in absurd (omega arith)
All-at P (x ∷ xs) d all h = elim (Contains-cases x d xs h) [
  | inl first ↦ subst P first all.0
  | inr later ↦ All-at P xs d all.1 later
]

reverse_less : (o : Ordering) → o ≡ Less → o ≡ ordering_reverse Less → ⊥
reverse_less o less greater = cc

-- neither of two elements can be below the other
not_both : {X : Type 0} {R : X → X → Ordering} → IsTotalOrder R → (x y : X) → R x y ≡ Less → R y x ≡ Less → ⊥
not_both {R = R} o x y less more = reverse_less (R x y) less (o.antisymm x y ∙ ap ordering_reverse more)

first_same : {X : Type 0} {R : X → X → Ordering} → IsTotalOrder R → (x y : X) (xs ys : List X)
    → IsStrictlySortedBy R (x ∷ xs) → IsStrictlySortedBy R (y ∷ ys) → Contains (y ∷ ys) x → Contains (x ∷ xs) y → x ≡ y
unfolding IsStrictlySortedBy
first_same {R = R} o x y xs ys up above has_x has_y = elim (Contains-cases y x ys has_x) [
  | inl same ↦ sym same
  | inr later ↦ elim (Contains-cases x y xs has_y) [
    | inl same ↦ same
    | inr after ↦ absurd (not_both o x y (All-at (λ d. R x d ≡ Less) xs y up.0 after) (All-at (λ d. R y d ≡ Less) ys x above.0 later))
  ]
]

-- an element after the first comes after it in the other list too
later_too : {X : Type 0} {R : X → X → Ordering} → IsTotalOrder R → (x y d : X) (xs ys : List X) → x ≡ y
    → IsStrictlySortedBy R (x ∷ xs) → Contains (y ∷ ys) d → Contains xs d → Contains ys d
unfolding IsStrictlySortedBy
later_too {R = R} o x y d xs ys same up has later = elim (Contains-cases y d ys has) [
  | inl first ↦
      let less : R x d ≡ Less = All-at (λ e. R x e ≡ Less) xs d up.0 later in
      let own : R d d ≡ Less = subst (λ e. R e d ≡ Less) (same ∙ first) less in
      absurd (not_both o d d own own)
  | inr after ↦ after
]

-- two lists that ascend, each element once, and have the same elements are one
pub sorted_same : {X : Type 0} {R : X → X → Ordering} → IsTotalOrder R → (xs ys : List X) → IsStrictlySortedBy R xs → IsStrictlySortedBy R ys
    → ((d : X) → Contains xs d → Contains ys d) → ((d : X) → Contains ys d → Contains xs d) → xs ≡ ys
unfolding IsStrictlySortedBy
sorted_same o [] [] up above to from = refl
sorted_same o [] (y ∷ ys) up above to from = let h = (from y (Contains-head y ys)).1 in absurd (omega arith)
sorted_same o (x ∷ xs) [] up above to from = let h = (to x (Contains-head x xs)).1 in absurd (omega arith)
sorted_same o (x ∷ xs) (y ∷ ys) up above to from =
    let same : x ≡ y = first_same o x y xs ys up above (to x (Contains-head x xs)) (from y (Contains-head y ys)) in
    ap₂ ◌∷◌ same (sorted_same o xs ys up.1 above.1
    (λ d h. later_too o x y d xs ys same up (to d (Contains-later x d xs h)) h)
    (λ d h. later_too o y x d ys xs (sym same) above (from d (Contains-later y d ys h)) h))

-- ---- digests that are sorted and freed of repeats

-- sorting, and then dropping repeats, arranges a list
pub IsArranged-sorted : (named sorted ds : List (List ℕ)) → IsPermutation named sorted → IsSorted (slice_cmp nat_cmp) sorted
    → IsFiltered (DiffersFromLast (pointwise nat_eq)) [] sorted ds → IsArranged named ds
IsArranged-sorted named sorted ds moved up kept = record {
  ascending = rw (dedup_is _ _ _ kept) (IsStrictlySortedBy-dedup (on_texts (λ x. x)) (λ x y. texts_ties x y) sorted up);
  all = λ d h.
      rw (dedup_is _ _ _ kept) (Contains-dedup (on_texts_equal (λ x. x)) (λ x y e. same_text x y (sym e)) sorted d (Contains-permutation named sorted d moved h));
  no_other = λ d h.
      Contains-permutation sorted named d (IsPermutation-sym named sorted moved) (Contains-from_dedup _ sorted d (rw (dedup_is _ _ _ kept) at h));
}

-- digests are arranged in one way
pub IsArranged-one : (named ds es : List (List ℕ)) → IsArranged named ds → IsArranged named es → ds ≡ es
IsArranged-one named ds es h k =
    sorted_same (on_texts (λ x. x)) ds es h.ascending k.ascending
    (λ d has. k.all d (h.no_other d has)) (λ d has. h.all d (k.no_other d has))
