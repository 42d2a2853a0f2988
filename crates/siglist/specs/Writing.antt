-- The rows of lists that the desk writes (UEFI 2.10, section 32.4.1).
use Rattle.std.specs.Prelude.{ℕ, ◌+◌, ◌*◌, List, [], ◌∷◌, ◌++◌, length, map, replicate}
use Rattle.std.specs.Int.{w32, to_le_bytes}
use Rattle.std.specs.List.{flat_map}
use Rattle.siglist.specs.Kinds.{sha256_kind, sha256_size, x509_kind, x509_sha256_kind, x509_sha256_size}
use Rattle.siglist.specs.SignatureLists.{Entry, SignatureList, entry_bytes}

-- own: the most digests of a list that is written
abbrev pub most_digests : ℕ
most_digests = 1000000

-- an entry of this owner and body
abbrev pub entry_of : List ℕ → List ℕ → Entry
entry_of owner body = record { owner = owner; body = body }

-- own: TimeOfRevocation, an EFI_TIME, is always 16 zero bytes, which revoke a certificate whenever
-- it signed
abbrev pub no_time : List ℕ
no_time = replicate 16 0

-- own: all entries in one list without a header, or no list where there is no entry
abbrev pub bare_row : List ℕ → ℕ → List Entry → List SignatureList
bare_row kind entry_size [] = []
bare_row kind entry_size (e ∷ es) = record {
  kind = kind;
  header = [];
  entry_size = entry_size;
  entries = e ∷ es;
} ∷ []

-- one SHA256 list of these digests in their order
abbrev pub sha256_row : List ℕ → List (List ℕ) → List SignatureList
sha256_row owner ds = bare_row sha256_kind sha256_size (map (entry_of owner) ds)

-- a digest with these bytes after it
abbrev pub digest_entry : List ℕ → List ℕ → List ℕ → Entry
digest_entry owner after d = entry_of owner (d ++ after)

-- one X509_SHA256 list of these digests in their order, each with its time
abbrev pub x509_sha256_row : List ℕ → List (List ℕ) → List SignatureList
x509_sha256_row owner ds = bare_row x509_sha256_kind x509_sha256_size (map (digest_entry owner no_time) ds)

-- one list of these digests in their order, each with the same bytes after it
abbrev pub digest_row : List ℕ → List ℕ → List (List ℕ) → List ℕ → List SignatureList
digest_row kind owner ds after = bare_row kind (sha256_size + length after) (map (digest_entry owner after) ds)

-- one list of one entry
abbrev pub one_row : List ℕ → List ℕ → List ℕ → List SignatureList
one_row kind owner body = bare_row kind (16 + length body) (entry_of owner body ∷ [])

-- one X509 list of this certificate
abbrev pub x509_row : List ℕ → List ℕ → List SignatureList
x509_row owner certificate = one_row x509_kind owner certificate

-- The head of a list without a header, of `count` entries of one size: SignatureType,
-- SignatureListSize, SignatureHeaderSize and SignatureSize
abbrev pub bare_head : List ℕ → ℕ → ℕ → List ℕ
bare_head kind entry_size count =
    kind ++ to_le_bytes w32 (28 + entry_size * count) ++ to_le_bytes w32 0 ++ to_le_bytes w32 entry_size

-- the head of a SHA256 list of `count` digests
abbrev pub sha256_head_bytes : ℕ → List ℕ
sha256_head_bytes count = bare_head sha256_kind sha256_size count

-- the entry of a digest in a SHA256 list: its owner, the digest
abbrev pub sha256_entry_bytes : List ℕ → List ℕ → List ℕ
sha256_entry_bytes owner d = entry_bytes (entry_of owner d)

-- the head of an X509_SHA256 list of `count` digests
abbrev pub x509_sha256_head_bytes : ℕ → List ℕ
x509_sha256_head_bytes count = bare_head x509_sha256_kind x509_sha256_size count

-- the entry of a digest in an X509_SHA256 list: its owner, the digest, its time
abbrev pub x509_sha256_entry_bytes : List ℕ → List ℕ → List ℕ
x509_sha256_entry_bytes owner d = entry_bytes (digest_entry owner no_time d)

-- a SHA256 list in its parts: the head and then each entry, or nothing where there is no digest
abbrev pub sha256_parts : List ℕ → List (List ℕ) → List ℕ
sha256_parts owner [] = []
sha256_parts owner (d ∷ ds) = sha256_head_bytes (length (d ∷ ds)) ++ flat_map (sha256_entry_bytes owner) (d ∷ ds)

-- an X509_SHA256 list in its parts
abbrev pub x509_sha256_parts : List ℕ → List (List ℕ) → List ℕ
x509_sha256_parts owner [] = []
x509_sha256_parts owner (d ∷ ds) = x509_sha256_head_bytes (length (d ∷ ds)) ++ flat_map (x509_sha256_entry_bytes owner) (d ∷ ds)
