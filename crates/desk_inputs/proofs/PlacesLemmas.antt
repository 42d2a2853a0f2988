-- Places of a file's parts.
use Rattle.std.proofs.Common.{◌≡◌, ◌∙◌, ℕ, List, ap, length, refl}
use Rattle.pe_image.specs.Image as image
use Rattle.pe_image.specs.Places.{Places, places_of}

length_is : (f : List ℕ) → (places_of f).length ≡ length f
unfolding places_of
length_is f = refl

-- the length of a file's places is the file's
pub length_placed : (f : List ℕ) (p : Places) → p ≡ places_of f → p.length ≡ length f
length_placed f p is = ap (λ (places : Places). places.length) is ∙ length_is f

gap_is : (f : List ℕ) → (places_of f).gap ≡ image.gap f
unfolding places_of
gap_is f = refl

-- the gap of a file's places is the file's
pub gap_placed : (f : List ℕ) (p : Places) → p ≡ places_of f → p.gap ≡ image.gap f
gap_placed f p is = ap (λ (places : Places). places.gap) is ∙ gap_is f
