-- DER elements (X.690, section 8.1): a tag, a length form and the content, one after another.
use Rattle.std.specs.Prelude.{◌≡◌, ◌≢◌, ◌⊎◌, ℕ, ◌+◌, ◌-◌, ◌*◌, ◌%◌, ◌<◌, length, fold, List, [], ◌∷◌, ◌++◌}

-- the number that bytes spell, the high one first (X.690, 8.1.3.5)
abbrev pub number_of : List ℕ → ℕ
number_of bytes = fold (λ n b. 256 * n + b) 0 bytes

-- the short form of a length: the number itself, below 0x80 (X.690, 8.1.3.4)
abbrev pub IsShortForm : ℕ → List ℕ → ℕ → Type 0
IsShortForm b bs n = (b < 128) × (bs ≡ []) × (n ≡ b)

-- the long form of a length: 0x80 and how many bytes follow, and the bytes of the number (X.690,
-- 8.1.3.5). own: one to four bytes follow, and they needn't be the fewest; 0x80 alone, of an
-- unstated length, is none
abbrev pub IsLongForm : ℕ → List ℕ → ℕ → Type 0
IsLongForm b bs n = (128 < b) × (b < 133) × (length bs ≡ b - 128) × (n ≡ number_of bs)

-- these bytes encode the length n (X.690, 8.1.3)
abbrev pub IsLengthForm : List ℕ → ℕ → Type 0
IsLengthForm [] n = ⊥
IsLengthForm (b ∷ bs) n = IsShortForm b bs n ⊎ IsLongForm b bs n

-- an element of these parts. own: a tag of more than one byte, whose first has its low five bits
-- set (X.690, 8.1.2.4), begins none
pub record IsElement (tag : ℕ) (content whole : List ℕ) : Type 0 where
  pub form : List ℕ
  pub low : tag % 32 ≢ 31
  pub size : IsLengthForm form (length content)
  pub is : whole ≡ tag ∷ (form ++ content)

-- the tag of a SEQUENCE (X.690, 8.9.1)
abbrev pub sequence : ℕ
sequence = 48

-- the bytes are a certificate (RFC 5280, 4.1), and this is its TBSCertificate. own: all else in it
-- is opaque
pub record IsCertificate (whole tbs : List ℕ) : Type 0 where
  pub content : List ℕ
  pub inner : List ℕ
  pub rest : List ℕ
  pub outer : IsElement sequence content whole
  pub first : IsElement sequence inner tbs
  pub is : content ≡ tbs ++ rest
