-- The parts of canonical texts.
use Rattle.std.proofs.Common.{◌≡◌, ℕ, List, [], ◌∷◌, ◌++◌, Result, Ok, Err, IfOk, Global, String, string_bytes, map, take, length, ◌≤◌, sym, ap, ap₂, ◌∙◌, append_assoc}
use Rattle.std.proofs.lemmas.List.{append-nil, take_all}
use Rattle.std.specs.declared.alloc.AllocError.{AllocError}
use Rattle.std.specs.List.{flat_map, join_with_byte}
use Rattle.desk_types.specs.Items.{spaced, list_text}

-- items joined by a byte are the first, and each other after that byte
pub joined-flat_map : {X : Type 0} (c : ℕ) (f : X → List ℕ) (x : X) (xs : List X) → join_with_byte c (f x ∷ map f xs) ≡ f x ++ flat_map (λ y. c ∷ f y) xs
joined-flat_map c f x [] = sym (append-nil (f x))
joined-flat_map c f x (y ∷ ys) = ap (λ t. f x ++ (c ∷ t)) (joined-flat_map c f y ys)

-- the text that a loop over the items after the first has made is the list's
pub listed : {X : Type 0} (f : X → List ℕ) (items : List X) (x : X) (xs : List X) (text start : List ℕ) (i : ℕ) → items ≡ x ∷ xs → start ≡ f x
    → text ≡ start ++ flat_map (λ y. 44 ∷ f y) (take i xs) → length xs ≤ i → text ≡ list_text (map f items)
listed f items x xs text start i whole first made all =
    let rest : take i xs ≡ xs = take_all i xs all in
    made ∙ ap₂ (λ s ys. s ++ flat_map (λ y. 44 ∷ f y) ys) first rest ∙ sym (joined-flat_map 44 f x xs) ∙ ap (λ ys. list_text (map f ys)) (sym whole)

-- seven parts with a space between each two, three of them joined before
pub seven : (r : Result (String Global) AllocError) (a b m f g h i c d e j k : List ℕ) → a ≡ h → b ≡ i → m ≡ spaced (c ∷ d ∷ e ∷ []) → f ≡ j → g ≡ k
    → IfOk r (λ text. string_bytes text ≡ spaced (a ∷ b ∷ m ∷ f ∷ g ∷ []))
    → IfOk r (λ text. string_bytes text ≡ spaced (h ∷ i ∷ c ∷ d ∷ e ∷ j ∷ k ∷ []))
seven (Ok text) a b m f g h i c d e j k p q middle t u given =
    let rest = 32 ∷ (j ++ (32 ∷ k)) in
    let regroup : (c ++ (32 ∷ (d ++ (32 ∷ e)))) ++ rest ≡ c ++ (32 ∷ (d ++ (32 ∷ (e ++ rest)))) = simp append_assoc in
    cc
seven (Err error) a b m f g h i c d e j k p q middle t u given = given
