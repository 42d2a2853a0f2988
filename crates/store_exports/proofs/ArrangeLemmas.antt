-- Items put in their places one by one, by a test that orders them: the list that comes of it is
-- the same in whatever order they come.
use Rattle.std.proofs.Common.{◌≡◌, suc, ◌+◌, Bool, true, false, List, [], ◌∷◌, get_or, refl, sym, ap, subst, ◌∙◌, arith, true≢false}
use Rattle.std.specs.Prelude.{if◌then◌else◌, ⊤}
use Rattle.std.specs.List.{AllByRecursion}
use Rattle.std.specs.List.Sorted.{IsPermutation, IsSortedBy}
use Rattle.std.proofs.lemmas.List.Elements.{All-from_recursion, recursion_from_All}
use Rattle.std.proofs.lemmas.List.Sorted.{All-permutation, IsPermutation-cons, IsPermutation-middle, IsPermutation-refl, IsPermutation-trans}
use Rattle.sqlite_trees.proofs.ListLemmas.{along_permutation}

denied : (b : Bool) → (b ≡ true → ⊥) → b ≡ false
denied true h = absurd (h refl)
denied false h = refl

pub all_permuted : {X : Type 0} (P : X → Type 0) (xs ys : List X) → IsPermutation xs ys → AllByRecursion P xs → AllByRecursion P ys
all_permuted P xs ys moved h = recursion_from_All P ys (All-permutation P xs ys moved (All-from_recursion P xs h))

pub all_any : {X : Type 0} (P : X → Type 0) → ((x : X) → P x) → (xs : List X) → AllByRecursion P xs
all_any P h [] = tt
all_any P h (x ∷ xs) = (h x, all_any P h xs)

module _ {X : Type 0} (le : X → X → Bool) where
  -- the item among others that are in order
  abbrev pub placed : X → List X → List X
  placed x [] = x ∷ []
  placed x (y ∷ ys) = if le x y then x ∷ y ∷ ys else y ∷ placed x ys

  abbrev pub arranged : List X → List X
  arranged [] = []
  arranged (x ∷ xs) = placed x (arranged xs)

  -- neighbours are in order
  abbrev pub Rises : List X → Type 0
  Rises [] = ⊤
  Rises (x ∷ []) = ⊤
  Rises (x ∷ y ∷ ys) = (le x y ≡ true) × Rises (y ∷ ys)

  -- items of which each may come before the other are one
  abbrev pub Tie : X → X → Type 0
  Tie x y = le x y ≡ true → le y x ≡ true → x ≡ y

  abbrev pub Apart : List X → Type 0
  Apart [] = ⊤
  Apart (x ∷ xs) = AllByRecursion (Tie x) xs × Apart xs

  first : (x y : X) (l : List X) → le x y ≡ true → placed x (y ∷ l) ≡ x ∷ y ∷ l
  first x y l is = ap (λ b. if b then x ∷ y ∷ l else y ∷ placed x l) is

  later : (x y : X) (l : List X) → le x y ≡ false → placed x (y ∷ l) ≡ y ∷ placed x l
  later x y l is = ap (λ b. if b then x ∷ y ∷ l else y ∷ placed x l) is

  -- a list in order stays as it is
  pub arranged_is : (xs : List X) → Rises xs → arranged xs ≡ xs
  arranged_is [] h = refl
  arranged_is (x ∷ []) h = refl
  arranged_is (x ∷ y ∷ ys) h = ap (placed x) (arranged_is (y ∷ ys) h.1) ∙ first x y ys h.0

  pub rises_of : (lt : X → X → Bool) (P : X → Type 0) → ((x y : X) → P x → P y → lt y x ≡ false → le x y ≡ true) → (xs : List X) → AllByRecursion P xs → IsSortedBy lt xs → Rises xs
  rises_of lt P turn [] all h = tt
  rises_of lt P turn (x ∷ []) all h = tt
  rises_of lt P turn (x ∷ y ∷ ys) all h = (
    turn x y all.0 all.1.0 (h 0 x (omega arith) (omega arith)),
    rises_of lt P turn (y ∷ ys) all.1 (λ k d low high.
        let next : suc k + 1 ≡ suc (k + 1) = omega arith in
        subst (λ n. lt (get_or (x ∷ y ∷ ys) n d) (get_or (y ∷ ys) k d) ≡ false) next (h (suc k) d (omega arith) (omega arith))),
  )

  module _ (total : (x y : X) → le x y ≡ false → le y x ≡ true) (chains : (x y z : X) → le x y ≡ true → le y z ≡ true → le x z ≡ true) where
    pair : (x y : X) (l : List X) → Tie x y → (a b : Bool) → le x y ≡ a → le y x ≡ b → (if a then x ∷ y ∷ l else y ∷ x ∷ l) ≡ (if b then y ∷ x ∷ l else x ∷ y ∷ l)
    pair x y l tie true true p q = let one : x ≡ y = tie p q in ap (λ z. z ∷ y ∷ l) one ∙ ap (λ z. y ∷ z ∷ l) (sym one)
    pair x y l tie true false p q = refl
    pair x y l tie false true p q = refl
    pair x y l tie false false p q = absurd (true≢false (sym (total x y p) ∙ q))

    beside : (x y z : X) (zs : List X) → Tie x y → placed x (placed y zs) ≡ placed y (placed x zs) → (a b : Bool) → le y z ≡ a → le x z ≡ b
        → placed x (if a then y ∷ z ∷ zs else z ∷ placed y zs) ≡ placed y (if b then x ∷ z ∷ zs else z ∷ placed x zs)
    beside x y z zs tie rest true true p q =
        ap (λ l. if le x y then x ∷ y ∷ z ∷ zs else y ∷ l) (first x z zs q)
        ∙ pair x y (z ∷ zs) tie (le x y) (le y x) refl refl
        ∙ ap (λ l. if le y x then y ∷ x ∷ z ∷ zs else x ∷ l) (sym (first y z zs p))
    beside x y z zs tie rest true false p q =
        let no : le x y ≡ false = denied (le x y) (λ is. true≢false (sym (chains x y z is p) ∙ q)) in
        later x y (z ∷ zs) no ∙ ap (λ l. y ∷ l) (later x z zs q) ∙ sym (first y z (placed x zs) p)
    beside x y z zs tie rest false true p q =
        let no : le y x ≡ false = denied (le y x) (λ is. true≢false (sym (chains y x z is q) ∙ p)) in
        first x z (placed y zs) q ∙ sym (later y x (z ∷ zs) no ∙ ap (λ l. x ∷ l) (later y z zs p))
    beside x y z zs tie rest false false p q = later x z (placed y zs) q ∙ ap (λ l. z ∷ l) rest ∙ sym (later y z (placed x zs) p)

    swapped : (x y : X) (l : List X) → Tie x y → placed x (placed y l) ≡ placed y (placed x l)
    swapped x y [] tie = pair x y [] tie (le x y) (le y x) refl refl
    swapped x y (z ∷ zs) tie = beside x y z zs tie (swapped x y zs tie) (le y z) (le x z) refl refl

    abbrev AreAlike : List X → List X → Type 0
    AreAlike xs ys = IsPermutation xs ys × (Apart xs → Apart ys × (arranged xs ≡ arranged ys))

    alike : (xs ys : List X) → IsPermutation xs ys → AreAlike xs ys
    alike = along_permutation AreAlike
        (λ xs. (IsPermutation-refl xs, λ h. (h, refl)))
        (λ x xs ys h. (
          IsPermutation-cons x xs ys h.0,
          λ apart. (let it = h.1 apart.1 in ((all_permuted (Tie x) xs ys h.0 apart.0, it.0), ap (placed x) it.1)),
        ))
        (λ x y xs. (
          IsPermutation-middle (x ∷ []) y xs,
          λ apart. (((λ p q. sym (apart.0.0 q p), apart.1.0), (apart.0.1, apart.1.1)), swapped x y (arranged xs) apart.0.0),
        ))
        (λ xs ys zs h k. (
          IsPermutation-trans xs ys zs h.0 k.0,
          λ apart. (let one = h.1 apart in let two = k.1 one.0 in (two.0, one.1 ∙ two.1)),
        ))

    -- items in order are those of any list of them, arranged
    pub arranged_one : (xs ys : List X) → IsPermutation xs ys → Apart xs → Rises ys → ys ≡ arranged xs
    arranged_one xs ys moved apart rises = sym (arranged_is ys rises) ∙ sym ((alike xs ys moved).1 apart).1
