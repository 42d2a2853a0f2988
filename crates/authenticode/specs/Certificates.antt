-- The certificates of one body (RFC 5652, sections 10.2.2 and 10.2.3).
use Rattle.std.specs.Prelude.{◌≡◌, ◌≢◌, ◌⊎◌, ℕ, List, [], ◌∷◌, Some}
use Rattle.base.specs.Elements.{IsCertificate, sequence}
use Rattle.base.specs.Parts.{Part, element_of}
use Rattle.authenticode.specs.SignedData.{certificates_of}
use Rattle.authenticode.specs.Walks.{Walks}

-- the TBSCertificate of a certificate, which is a SEQUENCE (RFC 5652, 10.2.2). own: an element with
-- another tag gives none
abbrev pub IsTbsOf : Part → List (List ℕ) → Type 0
IsTbsOf p own =
    ((p.tag ≡ sequence) × (tbs : List ℕ) × IsCertificate p.whole tbs × (own ≡ tbs ∷ []))
    ⊎ ((p.tag ≢ sequence) × (own ≡ []))

-- one element of a row, the TBSCertificate that it gives, and the bytes after it
pub record GivesCertificate (b : List ℕ) (own : List (List ℕ)) (rest : List ℕ) : Type 0 where
  pub part : Part
  pub stands : element_of b ≡ Some part
  pub gives : IsTbsOf part own
  pub rest_is : rest ≡ part.rest

-- the bytes are a row of elements and nothing more, and these are the TBSCertificates of its
-- certificates
abbrev pub IsRowOf : List ℕ → List (List ℕ) → Type 0
IsRowOf b tbs = Walks GivesCertificate b tbs []

-- the TBSCertificates of the certificates that a body holds
pub record IsBodyOf (body : List ℕ) (tbs : List (List ℕ)) : Type 0 where
  pub row : List ℕ
  pub holds : certificates_of body ≡ Some row
  pub is : IsRowOf row tbs
