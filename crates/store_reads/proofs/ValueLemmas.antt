-- Values beside their rows.
use Rattle.std.proofs.Common.{◌≡◌, ℕ, List, [], ◌∷◌, ◌++◌, map, take, length, get_or, ◌<◌, ◌+◌, add-one, refl, sym, ap, ap₂, subst, ◌∙◌}
use Rattle.std.proofs.Math.Seq.{take-suc}
use Rattle.std.specs.List.{AllZip}
use Rattle.sqlite.specs.Order.{Row}
use Rattle.store_reads.specs.Reads.{AreRead}

-- the row is that of the value, and of no other
abbrev pub IsValue : {T : Type 0} → (T → Row) → Row → T → Type 0
IsValue {T = T} shown row x = (row ≡ shown x) × ((y : T) → row ≡ shown y → x ≡ y)

push : {A B : Type 0} (P : A → B → Type 0) (l : List A) (bs : List B) (a : A) (b : B) → AllZip P l bs → P a b → AllZip P (l ++ a ∷ []) (bs ++ b ∷ [])
push P [] [] a b h p = (p, tt)
push P [] (y ∷ bs) a b h p = absurd h
push P (x ∷ l) [] a b h p = absurd h
push P (x ∷ l) (y ∷ bs) a b h p = (h.0, push P l bs a b h.1 p)

pub one_more : {A B : Type 0} (P : A → B → Type 0) (rows : List A) (i : ℕ) (row : A) (xs : List B) (x : B) → i < length rows → row ≡ get_or rows i row → AllZip P (take i rows) xs → P row x
    → AllZip P (take (i + 1) rows) (xs ++ x ∷ [])
one_more P rows i row xs x low is h p =
    subst (λ l. AllZip P l (xs ++ x ∷ [])) (sym (ap (λ k. take k rows) (add-one i) ∙ take-suc rows i row low ∙ ap (λ r. take i rows ++ r ∷ []) (sym is))) (push P (take i rows) xs row x h p)

module _ {T : Type 0} (shown : T → Row) where
  shows_all : (rows : List Row) (xs : List T) → AllZip (IsValue shown) rows xs → rows ≡ map shown xs
  shows_all [] [] h = refl
  shows_all [] (x ∷ xs) h = absurd h
  shows_all (r ∷ rows) [] h = absurd h
  shows_all (r ∷ rows) (x ∷ xs) h = ap₂ (λ a b. a ∷ b) h.0.0 (shows_all rows xs h.1)

  shows_only : (rows : List Row) (xs ys : List T) → AllZip (IsValue shown) rows xs → rows ≡ map shown ys → xs ≡ ys
  shows_only [] [] [] h e = refl
  shows_only [] [] (y ∷ ys) h e = absurd cc
  shows_only [] (x ∷ xs) ys h e = absurd h
  shows_only (r ∷ rows) [] ys h e = absurd h
  shows_only (r ∷ rows) (x ∷ xs) [] h e = absurd cc
  shows_only (r ∷ rows) (x ∷ xs) (y ∷ ys) h e =
      let one : r ≡ shown y = cc in
      let more : rows ≡ map shown ys = cc in
      ap₂ (λ a b. a ∷ b) (h.0.1 y one) (shows_only rows xs ys h.1 more)

  pub are_read : (rows : List Row) (xs : List T) → AllZip (IsValue shown) rows xs → AreRead shown rows xs
  are_read rows xs h = record { rows = shows_all rows xs h; only = λ ys e. shows_only rows xs ys h e }
