-- Lists of which one item at most passes a test.
use Rattle.std.proofs.Common.{◌≡◌, Bool, true, false, cond, List, [], ◌∷◌, map, filter, find, Option, Some, None, option_map, refl, sym, ap, ◌∙◌}
use Rattle.std.specs.Prelude.{if◌then◌else◌}
use Rattle.store_reads.specs.Reads.{listed}

module _ {X : Type 0} where
  pub keeps : (p : X → Bool) (x : X) (xs : List X) → p x ≡ true → filter p (x ∷ xs) ≡ x ∷ filter p xs
  keeps p x xs h = ap (λ b. cond b (x ∷ filter p xs) (filter p xs)) h

  pub drops : (p : X → Bool) (x : X) (xs : List X) → p x ≡ false → filter p (x ∷ xs) ≡ filter p xs
  drops p x xs h = ap (λ b. cond b (x ∷ filter p xs) (filter p xs)) h

  first_is : (x : X) (rest : List X) (o : Option X) → x ∷ rest ≡ listed o → Some x ≡ o
  first_is x rest None e = absurd cc
  first_is x rest (Some y) e = (let same : x ≡ y = cc in ap Some same)

  found_next : (p : X → Bool) (x : X) (xs : List X) (o : Option X) → filter p (x ∷ xs) ≡ listed o → (filter p xs ≡ listed o → find p xs ≡ o) → (b : Bool) → p x ≡ b → find p (x ∷ xs) ≡ o
  found_next p x xs o e rest true h = ap (λ b. cond b (Some x) (find p xs)) h ∙ first_is x (filter p xs) o (sym (keeps p x xs h) ∙ e)
  found_next p x xs o e rest false h = ap (λ b. cond b (Some x) (find p xs)) h ∙ rest (sym (drops p x xs h) ∙ e)

  swapped_next : (p q : X → Bool) (x : X) (xs : List X) → filter q (filter p xs) ≡ filter p (filter q xs) → (b c : Bool) → p x ≡ b → q x ≡ c
      → filter q (filter p (x ∷ xs)) ≡ filter p (filter q (x ∷ xs))
  swapped_next p q x xs more true true h k =
      ap (filter q) (keeps p x xs h) ∙ keeps q x (filter p xs) k ∙ ap (λ l. x ∷ l) more ∙ sym (keeps p x (filter q xs) h) ∙ sym (ap (filter p) (keeps q x xs k))
  swapped_next p q x xs more true false h k = ap (filter q) (keeps p x xs h) ∙ drops q x (filter p xs) k ∙ more ∙ sym (ap (filter p) (drops q x xs k))
  swapped_next p q x xs more false true h k = ap (filter q) (drops p x xs h) ∙ more ∙ sym (drops p x (filter q xs) h) ∙ sym (ap (filter p) (keeps q x xs k))
  swapped_next p q x xs more false false h k = ap (filter q) (drops p x xs h) ∙ more ∙ sym (ap (filter p) (drops q x xs k))

  -- the one item that passes is found
  pub found_listed : (p : X → Bool) (xs : List X) (o : Option X) → filter p xs ≡ listed o → find p xs ≡ o
  found_listed p [] None e = refl
  found_listed p [] (Some y) e = absurd cc
  found_listed p (x ∷ xs) o e = found_next p x xs o e (found_listed p xs o) (p x) refl

  pub swapped : (p q : X → Bool) (xs : List X) → filter q (filter p xs) ≡ filter p (filter q xs)
  swapped p q [] = refl
  swapped p q (x ∷ xs) = swapped_next p q x xs (swapped p q xs) (p x) (q x) refl refl

  -- an item, where it passes
  abbrev pub passing : (X → Bool) → Option X → Option X
  passing p None = None
  passing p (Some x) = if p x then Some x else None

  filter_listed : (p : X → Bool) (o : Option X) → filter p (listed o) ≡ listed (passing p o)
  filter_listed p None = refl
  filter_listed p (Some x) = elim (p x) as (λ b. cond b (x ∷ []) [] ≡ listed (if b then Some x else None)) [ true ↦ refl | false ↦ refl ]

  -- among those that pass another test, it is found where it passes that too
  pub found_passing : (p q : X → Bool) (xs : List X) (o : Option X) → filter q xs ≡ listed o → find q (filter p xs) ≡ passing p o
  found_passing p q xs o e = found_listed q (filter p xs) (passing p o) (swapped p q xs ∙ ap (filter p) e ∙ filter_listed p o)

-- items whose images are at most one
pub unmapped : {X Y : Type 0} (g : X → Y) (xs : List X) (o : Option Y) → map g xs ≡ listed o → (found : Option X) × (xs ≡ listed found) × (o ≡ option_map g found)
unmapped g [] None e = (None, refl, refl)
unmapped g [] (Some y) e = absurd cc
unmapped g (x ∷ []) None e = absurd cc
unmapped g (x ∷ []) (Some y) e = (Some x, refl, (let same : y ≡ g x = cc in ap Some same))
unmapped g (x ∷ z ∷ xs) None e = absurd cc
unmapped g (x ∷ z ∷ xs) (Some y) e = absurd cc

pub map_listed : {X Y : Type 0} (g : X → Y) (o : Option X) → map g (listed o) ≡ listed (option_map g o)
map_listed g None = refl
map_listed g (Some x) = refl
