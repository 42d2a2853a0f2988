-- Lists by the numbers of their items: reversed, distinct by them, and in their order.
use Rattle.std.proofs.Common.{◌≡◌, ◌≢◌, ℕ, suc, ◌+◌, ◌<◌, ◌≤◌, ◌==◌, Bool, true, false, List, [], ◌∷◌, ◌++◌, map, filter, get_or, refl, sym, ap, subst, ◌∙◌, append-nil, arith}
use Rattle.std.specs.Prelude.{reverse}
use Rattle.std.specs.List.{AllByRecursion}
use Rattle.std.specs.List.Sorted.{IsPermutation, IsSortedBy}
use Rattle.std.proofs.lemmas.Bool.Decides.{nat_tests}
use Rattle.std.proofs.lemmas.List.{map-append, reverse-append}
use Rattle.std.proofs.lemmas.List.Elements.{filter-append}
use Rattle.std.proofs.lemmas.List.Sorted.{IsPermutation-cons, IsPermutation-middle, IsPermutation-refl, IsPermutation-reverse, IsPermutation-trans}
use Rattle.sqlite_trees.specs.Tree.{IsAscending}
use Rattle.sqlite_trees.proofs.ListLemmas.{all-permutation, all_both, all_weaker, along_permutation, ascending-append, filter_none}
use Rattle.desk_history.proofs.ListLemmas.{number_above}
use Rattle.store_reads.proofs.PartLemmas.{Ascends}
use Rattle.store_shown.proofs.ItemLemmas.{drops, keeps}

-- ---- reversed

pub map-reverse : {X Y : Type 0} (f : X → Y) (xs : List X) → map f (reverse xs) ≡ reverse (map f xs)
map-reverse f [] = refl
map-reverse f (x ∷ xs) =
    ap (map f) (reverse-append (x ∷ []) xs) ∙ map-append f (reverse xs) (x ∷ []) ∙ ap (λ l. l ++ f x ∷ []) (map-reverse f xs)
    ∙ sym (reverse-append (f x ∷ []) (map f xs))

pub filter-reverse : {X : Type 0} (p : X → Bool) (xs : List X) → filter p (reverse xs) ≡ reverse (filter p xs)
filter-reverse p [] = refl
filter-reverse p (x ∷ xs) =
    ap (filter p) (reverse-append (x ∷ []) xs) ∙ filter-append p (reverse xs) (x ∷ []) ∙ ap (λ l. l ++ filter p (x ∷ [])) (filter-reverse p xs) ∙ by (p x) refl
  where
    by : (b : Bool) → p x ≡ b → reverse (filter p xs) ++ filter p (x ∷ []) ≡ reverse (filter p (x ∷ xs))
    by true h = ap (λ l. reverse (filter p xs) ++ l) (keeps p x [] h) ∙ sym (reverse-append (x ∷ []) (filter p xs)) ∙ ap reverse (sym (keeps p x xs h))
    by false h = ap (λ l. reverse (filter p xs) ++ l) (drops p x [] h) ∙ append-nil (reverse (filter p xs)) ∙ ap reverse (sym (drops p x xs h))

pub turned : {X : Type 0} (R : X → X → Type 0) (xs : List X) → IsAscending (λ a b. R b a) xs → IsAscending R (reverse xs)
turned R [] up = tt
turned R (x ∷ xs) up =
    subst (IsAscending R) (sym (reverse-append (x ∷ []) xs))
    (ascending-append R (reverse xs) (x ∷ []) (turned R xs up.1) (tt, tt)
    (all-permutation (λ y. AllByRecursion (R y) (x ∷ [])) xs (reverse xs) (IsPermutation-reverse xs)
    (all_weaker (λ y. R y x) (λ y. AllByRecursion (R y) (x ∷ [])) (λ y h. (h, tt)) xs up.0)))

-- ---- distinct

below : (m n : ℕ) → m < n → (m == n) ≡ false
below m n h = grind (arith, nat_tests)

itself : (n : ℕ) → (n == n) ≡ true
itself n = grind (arith, nat_tests)

module _ {X : Type 0} (n : X → ℕ) where
  -- the item is the only one of its number among these
  abbrev pub IsOnly : List X → X → Type 0
  IsOnly xs x = filter (λ y. n x == n y) xs ≡ x ∷ []

  newest : (x : X) (xs : List X) → AllByRecursion (λ y. n y < n x) xs → IsOnly (x ∷ xs) x
  newest x xs low =
      keeps (λ y. n x == n y) x xs (itself (n x))
      ∙ ap (λ l. x ∷ l) (filter_none (λ y. n x == n y) xs (all_weaker (λ y. n y < n x) (λ y. (n x == n y) ≡ false) (λ y h. number_above (n x) (n y) h) xs low))

  older : (x : X) (xs : List X) (y : X) → n y < n x → IsOnly xs y → IsOnly (x ∷ xs) y
  older x xs y h only = drops (λ z. n y == n z) x xs (below (n y) (n x) h) ∙ only

  -- where the numbers fall, each item is
  pub all_only : (xs : List X) → IsAscending (λ a b. n b < n a) xs → AllByRecursion (IsOnly xs) xs
  all_only [] up = tt
  all_only (x ∷ xs) up = (newest x xs up.0, all_both (λ y. n y < n x) (IsOnly xs) (IsOnly (x ∷ xs)) (older x xs) xs up.0 (all_only xs up.1))

  -- no two items have one number
  abbrev pub Differ : List X → Type 0
  Differ xs = IsAscending (λ a b. n a ≢ n b) xs

  abbrev DifferAlike : List X → List X → Type 0
  DifferAlike xs ys = IsPermutation xs ys × (Differ xs → Differ ys)

  alike : (xs ys : List X) → IsPermutation xs ys → DifferAlike xs ys
  alike = along_permutation DifferAlike
      (λ xs. (IsPermutation-refl xs, λ h. h))
      (λ x xs ys h. (IsPermutation-cons x xs ys h.0, λ apart. (all-permutation (λ y. n x ≢ n y) xs ys h.0 apart.0, h.1 apart.1)))
      (λ x y xs. (IsPermutation-middle (x ∷ []) y xs, λ apart. (((λ e. apart.0.0 (sym e)), apart.1.0), (apart.0.1, apart.1.1))))
      (λ xs ys zs h k. (IsPermutation-trans xs ys zs h.0 k.0, λ apart. k.1 (h.1 apart)))

  pub differ_along : (xs ys : List X) → IsPermutation xs ys → Differ xs → Differ ys
  differ_along xs ys moved = (alike xs ys moved).1

  -- ---- in their order

  higher : (m k : ℕ) → m ≤ k → m ≢ k → m < k
  higher m k low other = omega (arith, low, other)

  -- items of different numbers that are sorted by them ascend
  pub sorted_ascends : (lt : X → X → Bool) → ((x y : X) → lt y x ≡ false → n x ≤ n y) → (xs : List X) → IsSortedBy lt xs → Differ xs → Ascends n xs
  sorted_ascends lt most [] up apart = tt
  sorted_ascends lt most (x ∷ []) up apart = (tt, tt)
  sorted_ascends lt most (x ∷ y ∷ ys) up apart =
      let rest = sorted_ascends lt most (y ∷ ys)
      (λ k d low high. (let next : suc k + 1 ≡ suc (k + 1) = omega arith in
      subst (λ m. lt (get_or (x ∷ y ∷ ys) m d) (get_or (y ∷ ys) k d) ≡ false) next (up (suc k) d (omega arith) (omega arith)))) apart.1 in
      let less : n x < n y = higher (n x) (n y) (most x y (up 0 x (omega arith) (omega arith))) apart.0.0 in
      ((less, all_weaker (λ z. n y < n z) (λ z. n x < n z) (λ z h. omega (arith, less, h)) ys rest.0), rest)
