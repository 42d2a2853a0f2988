-- The text of an array, item by item.
use Rattle.std.proofs.Common.{◌≡◌, ◌∙◌, ℕ, List, [], ◌∷◌, ◌++◌, refl, ap, append_assoc, map, true}
use Rattle.serde_json.specs.Data.{Data, array}
use Rattle.serde_json.specs.View.{items_of}
use Rattle.serde_json.specs.Written.{compact_text, items_text}
use Rattle.http_responses.specs.json.Arrays.{after_commas, bracketed, with_commas}

module _ {X : Type 0} (as_data : X → Data) where
  -- the items after the first one, each after a comma, and the bracket
  others_text : (xs : List X) → after_commas as_data xs ++ 93 ∷ [] ≡ items_text true (items_of (map as_data xs))
  others_text [] = refl
  others_text (x ∷ xs) =
      append_assoc (44 ∷ compact_text (as_data x)) (after_commas as_data xs) (93 ∷ [])
      ∙ ap (λ (s : List ℕ). 44 ∷ (compact_text (as_data x) ++ s)) (others_text xs)

  -- all of them, and both brackets
  pub bracketed_array : (xs : List X) → bracketed (after_commas as_data xs) ≡ compact_text (array (items_of (map as_data xs)))
  bracketed_array [] = refl
  bracketed_array (x ∷ xs) =
      ap (λ (s : List ℕ). 91 ∷ s)
      (append_assoc (compact_text (as_data x)) (after_commas as_data xs) (93 ∷ [])
      ∙ ap (λ (s : List ℕ). compact_text (as_data x) ++ s) (others_text xs))

  -- the same, with a comma between two, after a text
  pub array_with_commas : (before : List ℕ) (xs : List X)
      → ((before ++ 91 ∷ []) ++ with_commas as_data xs) ++ 93 ∷ [] ≡ before ++ compact_text (array (items_of (map as_data xs)))
  array_with_commas before [] = simp append_assoc
  array_with_commas before (x ∷ xs) =
      append_assoc (before ++ 91 ∷ []) (with_commas as_data (x ∷ xs)) (93 ∷ [])
      ∙ append_assoc before (91 ∷ []) (with_commas as_data (x ∷ xs) ++ 93 ∷ [])
      ∙ ap (λ (s : List ℕ). before ++ s) (bracketed_array (x ∷ xs))
