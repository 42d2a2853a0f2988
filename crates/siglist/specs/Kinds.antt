-- The kinds of signature lists that the desk knows (UEFI 2.10, section 32.4.1), as their GUIDs are
-- stored.
use Rattle.std.specs.Prelude.{ℕ, ◌==◌, nat_le, Bool, true, false, List, [], ◌∷◌, if◌then◌else◌}
use Rattle.std.specs.Str.{bytes_eq}
use Rattle.siglist.specs.declared.kind.Kind.{Kind}
use Rattle.siglist.specs.declared.kind.Kind.TheVariants as kind

-- EFI_CERT_SHA256_GUID, c1c41626-504c-4092-aca9-41f936934328
abbrev pub sha256_kind : List ℕ
sha256_kind = 0x26 ∷ 0x16 ∷ 0xc4 ∷ 0xc1 ∷ 0x4c ∷ 0x50 ∷ 0x92 ∷ 0x40 ∷ 0xac ∷ 0xa9 ∷ 0x41 ∷ 0xf9 ∷ 0x36 ∷ 0x93 ∷ 0x43 ∷ 0x28 ∷ []

-- EFI_CERT_X509_GUID, a5c059a1-94e4-4aa7-87b5-ab155c2bf072
abbrev pub x509_kind : List ℕ
x509_kind = 0xa1 ∷ 0x59 ∷ 0xc0 ∷ 0xa5 ∷ 0xe4 ∷ 0x94 ∷ 0xa7 ∷ 0x4a ∷ 0x87 ∷ 0xb5 ∷ 0xab ∷ 0x15 ∷ 0x5c ∷ 0x2b ∷ 0xf0 ∷ 0x72 ∷ []

-- EFI_CERT_X509_SHA256_GUID, 3bd2a492-96c0-4079-b420-fcf98ef103ed
abbrev pub x509_sha256_kind : List ℕ
x509_sha256_kind = 0x92 ∷ 0xa4 ∷ 0xd2 ∷ 0x3b ∷ 0xc0 ∷ 0x96 ∷ 0x79 ∷ 0x40 ∷ 0xb4 ∷ 0x20 ∷ 0xfc ∷ 0xf9 ∷ 0x8e ∷ 0xf1 ∷ 0x03 ∷ 0xed ∷ []

-- the kind that a type's 16 bytes name
unfoldable pub kind_of : List ℕ → Kind
kind_of b =
    if bytes_eq b sha256_kind then kind.Sha256
    else if bytes_eq b x509_kind then kind.X509
    else if bytes_eq b x509_sha256_kind then kind.X509Sha256
    else kind.Other b

-- SignatureSize of a SHA256 list: the owner and a SHA-256 value
abbrev pub sha256_size : ℕ
sha256_size = 48

-- SignatureSize of an X509_SHA256 list: the owner, a SHA-256 value and an EFI_TIME
abbrev pub x509_sha256_size : ℕ
x509_sha256_size = 64

-- lists of this kind have no header
abbrev pub is_bare : Kind → Bool
is_bare kind.Sha256 = true
is_bare kind.X509 = true
is_bare kind.X509Sha256 = true
is_bare (kind.Other guid) = false

-- an entry of this kind may have this size
abbrev pub suits : Kind → ℕ → Bool
suits kind.Sha256 n = n == sha256_size
suits kind.X509 n = nat_le 17 n
suits kind.X509Sha256 n = n == x509_sha256_size
suits (kind.Other guid) n = true
