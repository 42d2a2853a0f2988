-- Rows gathered for keys: for each key, those of the table.
use Rattle.std.proofs.Common.{◌≡◌, Bool, true, false, ◌||◌, List, [], ◌∷◌, map, Option, Some, None, refl, sym, ap, ◌∙◌}
use Rattle.std.specs.Prelude.{filter, find, flat_map, if◌then◌else◌}
use Rattle.std.specs.List.{list_any}
use Rattle.std.specs.Option.{is_some, option_or}
use Rattle.std.proofs.lemmas.List.Folds.{find-append}

module _ {X : Type 0} (p q : X → Bool) where
  -- among rows that all fail the test nothing is found
  none_found : ((x : X) → q x ≡ true → p x ≡ false) → (xs : List X) → find p (filter q xs) ≡ None
  none_found apart [] = refl
  none_found apart (x ∷ xs) = elim (q x) as (λ b. q x ≡ b → find p (if b then x ∷ filter q xs else filter q xs) ≡ None) [
    | true ↦ λ is. rw (apart x is) (none_found apart xs)
    | false ↦ λ is. none_found apart xs
  ] refl

  -- where both tests are the same, the first row is found
  same_found : ((x : X) → q x ≡ p x) → (xs : List X) → find p (filter q xs) ≡ find p xs
  same_found alike [] = refl
  same_found alike (x ∷ xs) = elim (q x) as
      (λ b. q x ≡ b → find p (if b then x ∷ filter q xs else filter q xs) ≡ find p (x ∷ xs)) [
        | true ↦ λ is. rw (sym (alike x) ∙ is) refl
        | false ↦ λ is. rw (sym (alike x) ∙ is) (same_found alike xs)
      ] refl

either : {X : Type 0} (a b : Bool) (found : Option X)
    → option_or (if a then found else None) (if b then found else None) ≡ (if (a || b) then found else None)
either true true None = refl
either true true (Some x) = refl
either true false None = refl
either true false (Some x) = refl
either false true found = refl
either false false found = refl

module _ {K X : Type 0} (asked : K → X → Bool) (p : X → Bool) (same : K → Bool)
    (alike : (k : K) → same k ≡ true → (x : X) → asked k x ≡ p x)
    (apart : (k : K) → same k ≡ false → (x : X) → asked k x ≡ true → p x ≡ false)
    (table : List X) where
  of_key : (k : K) → find p (filter (asked k) table) ≡ (if same k then find p table else None)
  of_key k = elim (same k) as (λ b. same k ≡ b → find p (filter (asked k) table) ≡ (if b then find p table else None)) [
    | true ↦ λ is. same_found p (asked k) (alike k is) table
    | false ↦ λ is. none_found p (asked k) (apart k is) table
  ] refl

  -- a key among these finds, in the rows of all of them, the table's first row
  pub of_keys : (keys : List K) → find p (flat_map (λ k. filter (asked k) table) keys) ≡
      (if list_any same keys then find p table else None)
  of_keys [] = refl
  of_keys (k ∷ keys) = find-append p (filter (asked k) table) (flat_map (λ k. filter (asked k) table) keys)
      ∙ ap (λ o. option_or o (find p (flat_map (λ k. filter (asked k) table) keys))) (of_key k)
      ∙ ap (option_or (if same k then find p table else None)) (of_keys keys)
      ∙ either (same k) (list_any same keys) (find p table)

-- something passes a test where something is found
pub any_found : {X : Type 0} (p : X → Bool) (xs : List X) → list_any p xs ≡ is_some (find p xs)
any_found p [] = refl
any_found p (x ∷ xs) = elim (p x) as (λ b. (b || list_any p xs) ≡ is_some
    (if b then Some x else find p xs)) [ true ↦ refl | false ↦ any_found p xs ]

pub any_map : {X Y : Type 0} (view : X → Y) (p : Y → Bool) (xs : List X)
    → list_any p (map view xs) ≡ list_any (λ x. p (view x)) xs
any_map view p [] = refl
any_map view p (x ∷ xs) = ap (λ b. p (view x) || b) (any_map view p xs)
