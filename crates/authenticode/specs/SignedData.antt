-- SignedData (RFC 5652, section 5.1), up to its certificates. Tags are those of X.690, section 8.
use Rattle.std.specs.Prelude.{ℕ, ◌==◌, List, [], Option, Some, None, if◌then◌else◌}
use Rattle.base.specs.Elements.{sequence}
use Rattle.base.specs.Parts.{Part, element_of}
use Rattle.base.specs.Lines.{begins_with}

infixl 10 ◌>>=◌
-- f of the value, if there is one
abbrev pub ◌>>=◌ : {A B : Type 0} → Option A → (A → Option B) → Option B
(Some x) >>= f = f x
None >>= f = None

-- INTEGER (X.690, 8.3)
abbrev pub integer : ℕ
integer = 2

-- OBJECT IDENTIFIER (X.690, 8.19)
abbrev pub object_identifier : ℕ
object_identifier = 6

-- SET (X.690, 8.11)
abbrev pub set : ℕ
set = 49

-- the constructed tag [0] (X.690, 8.1.2)
abbrev pub first_own : ℕ
first_own = 160

-- an element that must have this tag
abbrev pub with_tag : ℕ → Part → Option Part
with_tag tag p = if p.tag == tag then Some p else None

-- the element at the front, which must have this tag
unfoldable pub tagged : ℕ → List ℕ → Option Part
tagged tag b = element_of b >>= with_tag tag

-- the content of a SignedData's certificates (RFC 5652, 10.2.3) if [0] follows; otherwise none
unfoldable pub certificate_set : List ℕ → Option (List ℕ)
certificate_set b =
    if begins_with first_own b
    then (tagged first_own b >>= λ certificates. Some certificates.content)
    else Some []

-- the certificates of a body: ContentInfo (RFC 5652, 3), its contentType and content; SignedData
-- (5.1), its version, digestAlgorithms and encapContentInfo. own: the contents of these, and the
-- bytes after them, aren't examined
unfoldable pub certificates_of : List ℕ → Option (List ℕ)
certificates_of body = do
  info ← tagged sequence body
  kind ← tagged object_identifier info.content
  content ← tagged first_own kind.rest
  signed ← tagged sequence content.content
  version ← tagged integer signed.content
  digests ← tagged set version.rest
  inner ← tagged sequence digests.rest
  certificate_set inner.rest
