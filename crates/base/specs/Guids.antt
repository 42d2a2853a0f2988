-- GUIDs (UEFI 2.10, appendix A): 16 bytes as they are stored, and their text of 36 characters.
use Rattle.std.specs.Prelude.{◌≡◌, ℕ, List, ◌∷◌, ◌++◌, Ok, length, slice_index, slice_range}
use Rattle.hex.specs.Hex.{IsBytes, decode_of, encode_lower}

-- the stored bytes of a GUID
abbrev pub IsGuid : List ℕ → Type 0
IsGuid g = (length g ≡ 16) × IsBytes g

-- The bytes reordered from storage order to text order, or back: a u32 and two u16 are stored
-- little-endian, and 8 bytes in the order of the text.
abbrev pub swapped : List ℕ → List ℕ
swapped (a ∷ b ∷ c ∷ d ∷ e ∷ f ∷ g ∷ h ∷ rest) = d ∷ c ∷ b ∷ a ∷ f ∷ e ∷ h ∷ g ∷ rest
swapped g = g

-- the bytes of one group of the text
abbrev pub group : List ℕ → ℕ → ℕ → List ℕ
group g from to = slice_range (swapped g) from to

-- the text is that of the GUID g: five groups of digits with hyphens (45) between them. own: in
-- either case
pub record IsGuidText (text g : List ℕ) : Type 0 where
  pub stored : length g ≡ 16
  pub size : length text ≡ 36
  pub first_hyphen : slice_index text 8 ≡ 45
  pub second_hyphen : slice_index text 13 ≡ 45
  pub third_hyphen : slice_index text 18 ≡ 45
  pub fourth_hyphen : slice_index text 23 ≡ 45
  pub first : decode_of (slice_range text 0 8) ≡ Ok (group g 0 4)
  pub second : decode_of (slice_range text 9 13) ≡ Ok (group g 4 6)
  pub third : decode_of (slice_range text 14 18) ≡ Ok (group g 6 8)
  pub fourth : decode_of (slice_range text 19 23) ≡ Ok (group g 8 10)
  pub fifth : decode_of (slice_range text 24 36) ≡ Ok (group g 10 16)

-- the text of the GUID g. own: in lower case
abbrev pub text_of : List ℕ → List ℕ
text_of g =
    encode_lower (group g 0 4) ++ 45 ∷ (encode_lower (group g 4 6) ++ 45 ∷ (encode_lower (group g 6 8)
    ++ 45 ∷ (encode_lower (group g 8 10) ++ 45 ∷ encode_lower (group g 10 16))))
