-- The order of exports.
use Rattle.std.specs.Prelude.{ℕ, Bool, if◌then◌else◌, List, [], ◌∷◌}
use Rattle.std.specs.List.Sorted.{IsPermutation, IsStrictlySortedBy}
use Rattle.std.specs.Ordering.{is_le, nat_cmp}
use Rattle.std.specs.Cmp.Lexicographic.{slice_cmp}

-- own: exports ascend by bytes
abbrev pub is_before : List ℕ → List ℕ → Bool
is_before a b = is_le (slice_cmp nat_cmp a b)

-- the item inserted among others that ascend by this key
abbrev pub in_place : {X : Type 0} → (X → List ℕ) → X → List X → List X
in_place key x [] = x ∷ []
in_place key x (y ∷ ys) = if is_before (key x) (key y) then x ∷ y ∷ ys else y ∷ in_place key x ys

-- the items, ascending by this key
abbrev pub ascending_by : {X : Type 0} → (X → List ℕ) → List X → List X
ascending_by key [] = []
ascending_by key (x ∷ xs) = in_place key x (ascending_by key xs)

-- texts in ascending order
abbrev pub ascending : List (List ℕ) → List (List ℕ)
ascending texts = ascending_by (λ text. text) texts

-- The second list has the items of the first, and its keys ascend by bytes, each once.
pub record IsInOrder {X : Type 0} (key : X → List ℕ) (xs ys : List X) : Type 0 where
  pub ascends : IsStrictlySortedBy (λ x y. slice_cmp nat_cmp (key x) (key y)) ys
  pub same : IsPermutation xs ys
