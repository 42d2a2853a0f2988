-- The body of a signature (RFC 5652), as nested elements.
use Rattle.std.specs.Prelude.{◌≡◌, ◌⊎◌, ℕ, false, List, [], ◌++◌}
use Rattle.base.specs.Elements.{IsElement, sequence}
use Rattle.base.specs.Lines.{begins_with}
use Rattle.authenticode.specs.SignedData.{first_own, integer, object_identifier, set}

-- the bytes are an element of this tag and content, and then `rest`
pub record Begins (tag : ℕ) (content rest b : List ℕ) : Type 0 where
  pub whole : List ℕ
  pub element : IsElement tag content whole
  pub is : b ≡ whole ++ rest

-- the bytes after encapContentInfo hold this row of certificates: the content of the element [0]
-- (RFC 5652, 5.1), or none if [0] doesn't follow
abbrev pub HoldsSet : List ℕ → List ℕ → Type 0
HoldsSet b row =
    ((rest : List ℕ) × Begins first_own row rest b) ⊎ ((begins_with first_own b ≡ false) × (row ≡ []))

-- SignedData (RFC 5652, 5.1): version, digestAlgorithms, encapContentInfo, certificates
pub record HoldsRow (signed row : List ℕ) : Type 0 where
  pub version : List ℕ
  pub after_version : List ℕ
  pub digests : List ℕ
  pub after_digests : List ℕ
  pub info : List ℕ
  pub after_info : List ℕ
  pub version_stands : Begins integer version after_version signed
  pub digests_stand : Begins set digests after_digests after_version
  pub info_stands : Begins sequence info after_info after_digests
  pub certificates : HoldsSet after_info row

-- ContentInfo (RFC 5652, 3): contentType, and content, which is [0] around SignedData
pub record HoldsCertificates (body row : List ℕ) : Type 0 where
  pub info : List ℕ
  pub after_body : List ℕ
  pub kind : List ℕ
  pub after_kind : List ℕ
  pub content : List ℕ
  pub after_content : List ℕ
  pub signed : List ℕ
  pub after_signed : List ℕ
  pub body_stands : Begins sequence info after_body body
  pub kind_stands : Begins object_identifier kind after_kind info
  pub content_stands : Begins first_own content after_content after_kind
  pub signed_stands : Begins sequence signed after_signed content
  pub holds : HoldsRow signed row
