-- Rows that belong to another row, by its number, and lists that ascend by a number.
use Rattle.std.proofs.Common.{◌≡◌, ◌⊎◌, inl, inr, ℕ, suc, zero, ◌<◌, ◌==◌, Bool, true, false, cond, List, [], ◌∷◌, ◌++◌, filter, refl, sym, ap, ap₂, subst, ◌∙◌, append-nil, arith}
use Rattle.std.specs.Prelude.{flat_map}
use Rattle.std.specs.List.{AllByRecursion, Contains}
use Rattle.std.proofs.lemmas.List.Elements.{All-contains, All-from_recursion, filter-append}
use Rattle.sqlite_trees.proofs.ListLemmas.{filter_all, filter_none}
use Rattle.sqlite_trees.specs.Tree.{IsAscending}

module _ {X : Type 0} where
  keeps : (p : X → Bool) (x : X) (xs : List X) → p x ≡ true → filter p (x ∷ xs) ≡ x ∷ filter p xs
  keeps p x xs h = ap (λ b. cond b (x ∷ filter p xs) (filter p xs)) h

  drops : (p : X → Bool) (x : X) (xs : List X) → p x ≡ false → filter p (x ∷ xs) ≡ filter p xs
  drops p x xs h = ap (λ b. cond b (x ∷ filter p xs) (filter p xs)) h

-- ---- rows that each whole has, with its number

module _ {R X : Type 0} (rows : R → List X) (whole : R → ℕ) (number : X → ℕ) (k : ℕ)
    (each : (r : R) (b : Bool) → (k == whole r) ≡ b → AllByRecursion (λ x. (k == number x) ≡ b) (rows r)) where
  abbrev of_it : X → Bool
  of_it x = k == number x

  abbrev is_it : R → Bool
  is_it r = k == whole r

  rows_next : (r : R) (rs : List R) → filter of_it (flat_map rows rs) ≡ flat_map rows (filter is_it rs) → (b : Bool) → (k == whole r) ≡ b
      → filter of_it (rows r) ++ filter of_it (flat_map rows rs) ≡ flat_map rows (filter is_it (r ∷ rs))
  rows_next r rs more true h =
      ap (λ l. l ++ filter of_it (flat_map rows rs)) (filter_all of_it (rows r) (each r true h)) ∙ ap (λ l. rows r ++ l) more
      ∙ sym (ap (flat_map rows) (keeps is_it r rs h))
  rows_next r rs more false h =
      ap (λ l. l ++ filter of_it (flat_map rows rs)) (filter_none of_it (rows r) (each r false h)) ∙ more
      ∙ sym (ap (flat_map rows) (drops is_it r rs h))

  all_rows : (rs : List R) → filter of_it (flat_map rows rs) ≡ flat_map rows (filter is_it rs)
  all_rows [] = refl
  all_rows (r ∷ rs) = filter-append of_it (rows r) (flat_map rows rs) ∙ rows_next r rs (all_rows rs) (k == whole r) refl

  -- where one whole has the number, its rows
  pub rows_of_one : (rs : List R) (r : R) → filter is_it rs ≡ r ∷ [] → filter of_it (flat_map rows rs) ≡ rows r
  rows_of_one rs r one = all_rows rs ∙ ap (flat_map rows) one ∙ append-nil (rows r)

-- ---- lists that ascend by a number

Contains-head : {X : Type 0} (x : X) (xs : List X) → Contains (x ∷ xs) x
Contains-head x xs = (0, omega arith, refl)

Contains-later : {X : Type 0} (x d : X) (xs : List X) → Contains xs d → Contains (x ∷ xs) d
Contains-later x d xs h = let low = h.1 in (suc h.0, omega arith, h.2)

Contains-cases : {X : Type 0} (x d : X) (xs : List X) → Contains (x ∷ xs) d → (x ≡ d) ⊎ Contains xs d
Contains-cases x d xs (zero, low, is) = inl is
Contains-cases x d xs (suc k, low, is) = inr (k, omega arith, is)

All-at : {X : Type 0} (P : X → Type 0) (xs : List X) (d : X) → AllByRecursion P xs → Contains xs d → P d
All-at P xs d all h = All-contains P xs d (All-from_recursion P xs all) h

module _ {X : Type 0} (n : X → ℕ) where
  abbrev pub Ascends : List X → Type 0
  Ascends xs = IsAscending (λ a b. n a < n b) xs

  first_same : (x y : X) (xs ys : List X) → Ascends (x ∷ xs) → Ascends (y ∷ ys) → Contains (y ∷ ys) x → Contains (x ∷ xs) y → x ≡ y
  first_same x y xs ys up above has_x has_y = elim (Contains-cases y x ys has_x) [
    | inl same ↦ sym same
    | inr later ↦ elim (Contains-cases x y xs has_y) [
      | inl same ↦ same
      | inr after ↦
          let low : n x < n y = All-at (λ d. n x < n d) xs y up.0 after in
          let high : n y < n x = All-at (λ d. n y < n d) ys x above.0 later in
          absurd (omega arith)
    ]
  ]

  later_too : (x y d : X) (xs ys : List X) → x ≡ y → Ascends (x ∷ xs) → Contains (y ∷ ys) d → Contains xs d → Contains ys d
  later_too x y d xs ys same up has later = elim (Contains-cases y d ys has) [
    | inl first ↦
        let less : n x < n d = All-at (λ e. n x < n e) xs d up.0 later in
        let own : n d < n d = subst (λ e. n e < n d) (same ∙ first) less in
        absurd (omega arith)
    | inr after ↦ after
  ]

  -- two lists that ascend and have the same items are one
  pub one_order : (xs ys : List X) → Ascends xs → Ascends ys → ((d : X) → Contains xs d → Contains ys d) → ((d : X) → Contains ys d → Contains xs d) → xs ≡ ys
  one_order [] [] up above to from = refl
  one_order [] (y ∷ ys) up above to from = let h = (from y (Contains-head y ys)).1 in absurd (omega arith)
  one_order (x ∷ xs) [] up above to from = let h = (to x (Contains-head x xs)).1 in absurd (omega arith)
  one_order (x ∷ xs) (y ∷ ys) up above to from =
      let same : x ≡ y = first_same x y xs ys up above (to x (Contains-head x xs)) (from y (Contains-head y ys)) in
      ap₂ ◌∷◌ same (one_order xs ys up.1 above.1
      (λ d h. later_too x y d xs ys same up (to d (Contains-later x d xs h)) h)
      (λ d h. later_too y x d ys xs (sym same) above (from d (Contains-later y d ys h)) h))
