-- A row that alone has its key, found in any order of the rows.
use Rattle.std.proofs.Common.{◌≡◌, ℕ, ◌+◌, ◌≤◌, Bool, true, false, not, List, [], ◌∷◌, Some, refl, sym, ◌∙◌, ap, arith}
use Rattle.std.specs.Prelude.{◌==◌, if◌then◌else◌, IsPermutation, bytes_eq, count_by, find}
use Rattle.std.specs.List.{list_any}
use Rattle.std.proofs.lemmas.Bool.{and_parts, or_parts}
use Rattle.std.proofs.lemmas.Bool.Decides.{nat_tests}
use Rattle.sqlite_trees.proofs.ListLemmas.{along_permutation}
use Rattle.desk_history.specs.Calls.{are_apart}
use Rattle.desk_history.proofs.CountLemmas.{one_if}
use Rattle.desk_history.proofs.ListLemmas.{same_text}
use Rattle.desk_history.proofs.RequestLemmas.{count_more}

module _ {X : Type 0} (p : X → Bool) where
  -- as many items pass the test, and where at most one does it is found in both
  abbrev FoundAlike : List X → List X → Type 0
  FoundAlike xs ys = (count_by p ys ≡ count_by p xs) × (count_by p xs ≤ 1 → find p xs ≡ find p ys)

  skip : (x : X) (xs ys : List X) → FoundAlike xs ys → FoundAlike (x ∷ xs) (x ∷ ys)
  skip x xs ys h =
      let more_xs : count_by p (x ∷ xs) ≡ one_if (p x) + count_by p xs = count_more p x xs in
      let more_ys : count_by p (x ∷ ys) ≡ one_if (p x) + count_by p ys = count_more p x ys in
      let same : count_by p ys ≡ count_by p xs = h.0 in (
        omega arith,
        elim (p x) as (λ b. count_by p (x ∷ xs) ≡ one_if b + count_by p xs → count_by p (x ∷ xs) ≤ 1 → (if b then Some x else find p xs) ≡ (if b then Some x else find p ys)) [
          | true ↦ λ m few. refl
          | false ↦ λ m few. h.1 (omega arith)
        ] more_xs,
      )

  turn : (x y : X) (xs : List X) → FoundAlike (x ∷ y ∷ xs) (y ∷ x ∷ xs)
  turn x y xs =
      let a : count_by p (x ∷ y ∷ xs) ≡ one_if (p x) + count_by p (y ∷ xs) = count_more p x (y ∷ xs) in
      let b : count_by p (y ∷ xs) ≡ one_if (p y) + count_by p xs = count_more p y xs in
      let c : count_by p (y ∷ x ∷ xs) ≡ one_if (p y) + count_by p (x ∷ xs) = count_more p y (x ∷ xs) in
      let d : count_by p (x ∷ xs) ≡ one_if (p x) + count_by p xs = count_more p x xs in
      let total : count_by p (x ∷ y ∷ xs) ≡ one_if (p x) + (one_if (p y) + count_by p xs) = omega arith in
      (omega arith, exchanged (p x) (p y) total)
    where
      exchanged : (b c : Bool) → count_by p (x ∷ y ∷ xs) ≡ one_if b + (one_if c + count_by p xs) → count_by p (x ∷ y ∷ xs) ≤ 1 →
          (if b then Some x else (if c then Some y else find p xs)) ≡ (if c then Some y else (if b then Some x else find p xs))
      exchanged true true total few = (let two : 1 + (1 + count_by p xs) ≤ 1 = omega arith in absurd (omega arith))
      exchanged true false total few = refl
      exchanged false true total few = refl
      exchanged false false total few = refl

  chain : (xs ys zs : List X) → FoundAlike xs ys → FoundAlike ys zs → FoundAlike xs zs
  chain xs ys zs h k = (k.0 ∙ h.0, λ few. (let same : count_by p ys ≡ count_by p xs = h.0 in h.1 few ∙ k.1 (omega arith)))

  found_alike : (xs ys : List X) → IsPermutation xs ys → FoundAlike xs ys
  found_alike = along_permutation FoundAlike (λ xs. (refl, λ few. refl)) skip turn chain

  module _ (same : X → X → Bool) (alike : (a b : X) → p a ≡ true → p b ≡ true → same a b ≡ true) where
    none_with : (x : X) (xs : List X) → p x ≡ true → list_any (same x) xs ≡ false → count_by p xs ≡ 0
    none_with x [] is h = refl
    none_with x (y ∷ ys) is h =
        let parts : (same x y ≡ false) × (list_any (same x) ys ≡ false) = or_parts (same x y) (list_any (same x) ys) h in
        let rest : count_by p ys ≡ 0 = none_with x ys is parts.1 in
        count_more p y ys
        ∙ elim (p y) as (λ b. p y ≡ b → one_if b + count_by p ys ≡ 0) [
          | true ↦ λ e. (let clash : true ≡ false = sym (alike x y is e) ∙ parts.0 in cc)
          | false ↦ λ e. omega arith
        ] refl

    -- of rows that are apart one at most passes the test
    one_alone : (xs : List X) → are_apart same xs ≡ true → count_by p xs ≤ 1
    one_alone [] h = omega arith
    one_alone (x ∷ xs) h =
        let parts : (not (list_any (same x) xs) ≡ true) × (are_apart same xs ≡ true) = and_parts (not (list_any (same x) xs)) (are_apart same xs) h in
        let more : count_by p (x ∷ xs) ≡ one_if (p x) + count_by p xs = count_more p x xs in
        let rest : count_by p xs ≤ 1 = one_alone xs parts.1 in
        elim (p x) as (λ b. p x ≡ b → count_by p (x ∷ xs) ≡ one_if b + count_by p xs → count_by p (x ∷ xs) ≤ 1) [
          | true ↦ λ e m. (let none : count_by p xs ≡ 0 = none_with x xs e (denied (list_any (same x) xs) parts.0) in omega arith)
          | false ↦ λ e m. omega arith
        ] refl more
      where
        denied : (b : Bool) → not b ≡ true → b ≡ false
        denied false k = refl
        denied true k = cc

    pub find_in_any_order : (xs ys : List X) → are_apart same xs ≡ true → IsPermutation xs ys → find p ys ≡ find p xs
    find_in_any_order xs ys apart order = sym ((found_alike xs ys order).1 (one_alone xs apart))

-- two texts that are a third are one
pub one_text : (key a b : List ℕ) → bytes_eq key a ≡ true → bytes_eq key b ≡ true → bytes_eq a b ≡ true
one_text key a b h k = ap (λ t. bytes_eq t b) (sym (same_text key a h)) ∙ k

-- and two numbers
pub one_number : (key a b : ℕ) → (key == a) ≡ true → (key == b) ≡ true → (a == b) ≡ true
one_number key a b h k = grind (arith, nat_tests)
