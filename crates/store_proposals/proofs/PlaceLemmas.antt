-- Rows that are read by their numbers, one after another.
use Rattle.std.proofs.Common.{◌≡◌, ◌⊎◌, inl, inr, ℕ, zero, suc, ◌+◌, ◌-◌, ◌≤◌, ◌<◌, Bool, true, false, cond, List, [], ◌∷◌, ◌++◌, map, filter, length, take, drop, min, refl, sym, ap, ap₂, subst, ◌∙◌, append-nil, arith}
use Rattle.std.specs.Prelude.{⊤, nat_le}
use Rattle.std.specs.List.{AllByRecursion, AllZip}
use mir.Val.{bool_byte}
use Rattle.std.proofs.lemmas.Bool.Decides.{nat_tests}
use Rattle.std.proofs.lemmas.List.{take_all}
use Rattle.std.proofs.Math.ListN.{drop_of_length-le}
use Rattle.std.proofs.Math.Seq.{take-append_seam}
use Rattle.store_proposals.specs.Numbered.{AreNumbered}

-- a test counts one at most
pub at_most_one : (b : Bool) → bool_byte b ≤ 1
at_most_one true = omega arith
at_most_one false = omega arith

-- ---- lists

-- a relation of two lists holds with more items in each
pub zip_append : {A B : Type 0} (P : A → B → Type 0) (xs zs : List A) (ys ws : List B) → AllZip P xs ys → AllZip P zs ws → AllZip P (xs ++ zs) (ys ++ ws)
zip_append P [] zs [] ws h k = k
zip_append P [] zs (y ∷ ys) ws h k = absurd h
zip_append P (x ∷ xs) zs [] ws h k = absurd h
zip_append P (x ∷ xs) zs (y ∷ ys) ws h k = (h.0, zip_append P xs zs ys ws h.1 k)

pub all_drop : {X : Type 0} (P : X → Type 0) (k : ℕ) (xs : List X) → AllByRecursion P xs → AllByRecursion P (drop k xs)
all_drop P zero xs all = all
all_drop P (suc k) [] all = tt
all_drop P (suc k) (x ∷ xs) all = all_drop P k xs all.1

pub all_take : {X : Type 0} (P : X → Type 0) (k : ℕ) (xs : List X) → AllByRecursion P xs → AllByRecursion P (take k xs)
all_take P zero xs all = tt
all_take P (suc k) [] all = tt
all_take P (suc k) (x ∷ xs) all = (all.0, all_take P k xs all.1)

-- the first items, where there are so many or no others
pub first_of : {X : Type 0} (most : ℕ) (xs more : List X) → length xs ≤ most → (length xs ≡ most) ⊎ (more ≡ []) → take most (xs ++ more) ≡ xs
first_of most xs more few (inl all) = ap (λ n. take n (xs ++ more)) (sym all) ∙ take-append_seam xs more
first_of most xs more few (inr none) = ap (λ l. take most (xs ++ l)) none ∙ ap (take most) (append-nil xs) ∙ take_all most xs few

pub clamped : {X : Type 0} (j most : ℕ) (xs : List X) → length xs ≤ most → drop (min j most) xs ≡ drop j xs
clamped j most xs h = by (nat_le j most) refl
  where
    by : (b : Bool) → nat_le j most ≡ b → drop (min j most) xs ≡ drop j xs
    by true is = ap (λ n. drop n xs) (let low : j ≤ most = grind (arith, nat_tests, is) in (let same : min j most ≡ j = grind (arith, low) in same))
    by false is =
        let high : most ≤ j = grind (arith, nat_tests, is) in
        let same : min j most ≡ most = grind (arith, high) in
        let above : length xs ≤ j = omega (arith, h, high) in
        ap (λ n. drop n xs) same ∙ drop_of_length-le xs h ∙ sym (drop_of_length-le xs above)

-- ---- one row more

pub numbered_more : {R : Type 0} (at : ℕ → List R) (k : ℕ) (rows : List R) (row : R) → AreNumbered at k rows → at (k + length rows) ≡ row ∷ [] → AreNumbered at k (rows ++ row ∷ [])
numbered_more at k [] row all one = (subst (λ m. at m ≡ row ∷ []) (let is : k + 0 ≡ k = omega arith in is) one, tt)
numbered_more at k (x ∷ rows) row all one = (
  all.0,
  numbered_more at (k + 1) rows row all.1 (subst (λ m. at m ≡ row ∷ []) (let is : k + length (x ∷ rows) ≡ k + 1 + length rows = omega arith in is) one),
)

-- ---- items that are numbered one after another

module _ {X : Type 0} (number : X → ℕ) where
  -- the items have the numbers from this one on, with no gap
  abbrev pub HaveNumbers : ℕ → List X → Type 0
  HaveNumbers k [] = ⊤
  HaveNumbers k (x ∷ xs) = (number x ≡ k) × HaveNumbers (k + 1) xs

  pub next_number : (k : ℕ) (xs : List X) (x : X) → HaveNumbers k xs → number x ≡ k + length xs → HaveNumbers k (xs ++ x ∷ [])
  next_number k [] x up is = (omega (arith, is), tt)
  next_number k (y ∷ xs) x up is = (up.0, next_number (k + 1) xs x up.1 (omega (arith, is)))

  pub numbers_after : (k a : ℕ) (xs : List X) → HaveNumbers a xs → HaveNumbers (a + k) (drop k xs)
  numbers_after zero a xs up = subst (λ m. HaveNumbers m xs) (let same : a ≡ a + 0 = omega arith in same) up
  numbers_after (suc k) a [] up = tt
  numbers_after (suc k) a (x ∷ xs) up = subst (λ m. HaveNumbers m (drop k xs)) (let same : a + 1 + k ≡ a + suc k = omega arith in same) (numbers_after k (a + 1) xs up.1)

  all_least : (n a : ℕ) (xs : List X) → n ≤ a → HaveNumbers a xs → filter (λ x. nat_le n (number x)) xs ≡ xs
  all_least n a [] low up = refl
  all_least n a (x ∷ xs) low up =
      let is = up.0 in
      let here : nat_le n (number x) ≡ true = (let least : n ≤ number x = omega (arith, low, is) in grind (arith, nat_tests, least)) in
      ap (λ b. cond b (x ∷ filter (λ y. nat_le n (number y)) xs) (filter (λ y. nat_le n (number y)) xs)) here ∙ ap (λ l. x ∷ l) (all_least n (a + 1) xs (omega (arith, low)) up.1)

  none_left : (m : ℕ) → ◌≡◌ {A = List X} (drop m []) []
  none_left zero = refl
  none_left (suc m) = refl

  -- those with the number n or a later one are those after the first n - a
  pub from_is : (n a : ℕ) (xs : List X) → HaveNumbers a xs → filter (λ x. nat_le n (number x)) xs ≡ drop (n - a) xs
  from_is n a [] up = sym (none_left (n - a))
  from_is n a (x ∷ xs) up = next (nat_le n a) refl (from_is n (a + 1) xs up.1)
    where
      next : (b : Bool) → nat_le n a ≡ b → filter (λ y. nat_le n (number y)) xs ≡ drop (n - (a + 1)) xs → filter (λ y. nat_le n (number y)) (x ∷ xs) ≡ drop (n - a) (x ∷ xs)
      next true is rest =
          let low : n ≤ a = grind (arith, nat_tests, is) in
          let none : n - a ≡ 0 = omega (arith, low) in
          all_least n a (x ∷ xs) low up ∙ ap (λ m. drop m (x ∷ xs)) (sym none)
      next false is rest =
          let high : a < n = grind (arith, nat_tests, is) in
          let own = up.0 in
          let here : nat_le n (number x) ≡ false = (let less : number x < n = omega (arith, high, own) in grind (arith, nat_tests, less)) in
          let one : suc (n - (a + 1)) ≡ n - a = omega (arith, high) in
          ap (λ b. cond b (x ∷ filter (λ y. nat_le n (number y)) xs) (filter (λ y. nat_le n (number y)) xs)) here ∙ rest ∙ ap (λ m. drop m (x ∷ xs)) one

  module _ {R : Type 0} (row : X → R) (at : ℕ → List R) where
    -- the item's row stands alone at its number
    abbrev pub IsAt : X → Type 0
    IsAt x = at (number x) ≡ row x ∷ []

    same_one : (r s : R) → r ∷ [] ≡ s ∷ [] → r ≡ s
    same_one r s e = cc

    -- rows that were read by numbers from this one on are those of the first items
    pub rows_are : (a : ℕ) (xs : List X) → HaveNumbers a xs → AllByRecursion IsAt xs → (rows : List R) → AreNumbered at a rows → length rows ≤ length xs → rows ≡ map row (take (length rows) xs)
    rows_are a [] up only [] read few = refl
    rows_are a [] up only (r ∷ rows) read few = absurd (omega (arith, few))
    rows_are a (x ∷ xs) up only [] read few = refl
    rows_are a (x ∷ xs) up only (r ∷ rows) read few =
        let own : at a ≡ row x ∷ [] = subst (λ n. at n ≡ row x ∷ []) up.0 only.0 in
        ap₂ ◌∷◌ (same_one r (row x) (sym read.0 ∙ own)) (rows_are (a + 1) xs up.1 only.1 rows read.1 (omega (arith, few)))
