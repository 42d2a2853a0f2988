-- Facts read back, a part at a time.
use Rattle.std.proofs.Common.{◌≡◌, ◌≢◌, ℕ, ◌<◌, ◌⊎◌, inl, inr, Bool, true, false, MatchBool, List, ◌∷◌, ◌++◌, All, decimal, refl, sym, ap, ◌∙◌, arith}
use Rattle.hex.specs.Hex.{encode_lower}
use Rattle.sbat.specs.Fields.{decimal_of}
use Rattle.sbat.specs.declared.component.Component.{Component}
use Rattle.base.specs.Limits.{longest_image}
use Rattle.pe_image.specs.Extents.{Lengths}
use Rattle.desk_types.specs.Commands.{IsComponent, IsCount, IsDigest, IsFacts}
use Rattle.desk_types.specs.Formed.{AreFactsWithin}
use Rattle.desk_types.specs.Items.{components_text, digests_text}
use Rattle.desk_types.specs.Reading.{AreMeasures, IsExtent, extent_then, measures_then}
use Rattle.desk_types.specs.declared.facts.Facts.{Facts}
use Rattle.desk_types.proofs.FieldLemmas.{is_free}
use Rattle.desk_types.proofs.SpaceLemmas.{free_whole, parted_once}
use Rattle.desk_types.proofs.ValueLemmas.{components_in, components_read, decimal_free, decimal_read, digests_in, digests_read, hex_free}

-- the text is split at its first space
abbrev pub IsParted : List ℕ → List ℕ → List ℕ → Type 0
IsParted text first rest = (text ≡ first ++ (32 ∷ rest)) × (is_free 32 first ≡ true)

-- there is no other way to split it
pub parted_same : (text first rest a b : List ℕ) → IsParted text first rest → is_free 32 a ≡ true → text ≡ a ++ (32 ∷ b) → (first ≡ a) × (rest ≡ b)
parted_same text first rest a b parts free same = parted_once first rest a b parts.1 free (sym parts.0 ∙ same)

-- and a text without a space isn't split
pub unparted : (text a b : List ℕ) → is_free 32 text ≡ true → text ≢ a ++ (32 ∷ b)
unparted text a b free same = free_whole a b (ap (is_free 32) (sym same) ∙ free)

-- the number before a space, and what follows
pub number_same : (text rest more : List ℕ) (m n : ℕ) → IsCount m → IsCount n → text ≡ decimal m ++ (32 ∷ rest) → text ≡ decimal n ++ (32 ∷ more) → (m ≡ n) × (rest ≡ more)
number_same text rest more m n h k is same =
    let both = parted_once (decimal m) rest (decimal n) more (decimal_free m h) (decimal_free n k) (sym is ∙ same) in
    (sym (decimal_read m h) ∙ ap decimal_of both.0 ∙ decimal_read n k, both.1)

-- the digest before a space, and what follows
pub digest_then : (text rest more d e : List ℕ) → IsDigest d → IsDigest e → text ≡ encode_lower d ++ (32 ∷ rest) → text ≡ encode_lower e ++ (32 ∷ more) → rest ≡ more
digest_then text rest more d e h k is same =
    (parted_once (encode_lower d) rest (encode_lower e) more (hex_free d h.bytes) (hex_free e k.bytes) (sym is ∙ same)).1

-- one text, one list
pub digests_same : (text : List ℕ) (a b : List (List ℕ)) → All IsDigest a → All IsDigest b → text ≡ digests_text a → text ≡ digests_text b → a ≡ b
digests_same text a b h k is same = sym (digests_read a h) ∙ ap digests_in (sym is ∙ same) ∙ digests_read b k

pub components_same : (text : List ℕ) (a b : List Component) → All IsComponent a → All IsComponent b → text ≡ components_text a → text ≡ components_text b → a ≡ b
components_same text a b h k is same = sym (components_read a h) ∙ ap components_in (sym is ∙ same) ∙ components_read b k

-- a test that failed
pub refuted : (r : Bool) (P : Type 0) → MatchBool r P (P → ⊥) → r ≡ false → P → ⊥
refuted true P h e = absurd (cc)
refuted false P h e = h

pub file_small : (e : Lengths) → IsExtent e → IsCount e.length
file_small e h = let file = h.file in omega arith

pub gap_small : (e : Lengths) → IsExtent e → IsCount e.gap
gap_small e h = let file = h.file in let gap = h.gap in omega arith

pub extent_refused : (l g : ℕ) (e : Lengths) → (l < g) ⊎ (longest_image < l) → l ≡ e.length → g ≡ e.gap → IsExtent e → ⊥
extent_refused l g e over p q h =
    let file = h.file in
    let gap = h.gap in
    elim over [ inl more ↦ omega arith | inr long ↦ omega arith ]

-- what follows two lengths
pub extent_rest : (text rest more : List ℕ) (d e : Lengths) → IsExtent d → IsExtent e → text ≡ extent_then d rest → text ≡ extent_then e more → rest ≡ more
extent_rest text rest more d e h k is same =
    let one = number_same text _ _ d.length e.length (file_small d h) (file_small e k) is same in
    (parted_once (decimal d.gap) rest (decimal e.gap) more (decimal_free d.gap (gap_small d h)) (decimal_free e.gap (gap_small e k)) one.1).1

-- what follows the lengths and digests of an image
pub measures_rest : (text rest more : List ℕ) (d e : Lengths) (f g h i j k : List ℕ) → AreMeasures d f g h → AreMeasures e i j k
    → text ≡ measures_then d f g h rest → text ≡ measures_then e i j k more → rest ≡ more
measures_rest text rest more d e f g h i j k l m is same =
    let one = extent_rest text _ _ d e l.lengths m.lengths is same in
    let two = digest_then _ _ _ f i l.first m.first refl one in
    let three = digest_then _ _ _ g j l.second m.second refl two in
    digest_then _ _ _ h k l.third m.third refl three

pub facts_measured : (f : Facts) → IsFacts f → AreFactsWithin f → AreMeasures f.extent f.file f.digest f.signing
facts_measured f h k = record { lengths = record { gap = k.gap; file = k.file }; first = h.file; second = h.digest; third = h.signing }
