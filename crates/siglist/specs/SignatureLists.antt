-- The bytes that spell a row of signature lists (UEFI 2.10, section 32.4.1, EFI_SIGNATURE_LIST).
use Rattle.std.specs.Prelude.{◌≡◌, ℕ, ◌+◌, ◌*◌, ◌^◌, ◌<◌, ◌≤◌, List, [], ◌∷◌, ◌++◌, length}
use Rattle.std.specs.List.{flat_map, AllByRecursion}
use Rattle.std.specs.Int.{w32, to_le_bytes}
use Rattle.siglist.specs.Kinds.{sha256_kind, sha256_size, x509_kind, x509_sha256_kind, x509_sha256_size}

-- EFI_SIGNATURE_DATA: SignatureOwner (16 bytes), and SignatureData
pub record Entry : Type 0 where
  pub owner : List ℕ
  pub body : List ℕ

-- the type's GUID (16 bytes), the header, SignatureSize, and the entries
pub record SignatureList : Type 0 where
  pub kind : List ℕ
  pub header : List ℕ
  pub entry_size : ℕ
  pub entries : List Entry

-- SignatureOwner, then SignatureData
abbrev pub entry_bytes : Entry → List ℕ
entry_bytes e = e.owner ++ e.body

-- SignatureListSize: the whole list
abbrev pub list_size : SignatureList → ℕ
list_size l = 28 + length l.header + l.entry_size * length l.entries

-- SignatureType, SignatureListSize, SignatureHeaderSize and SignatureSize: 28 bytes
abbrev pub head_bytes : SignatureList → List ℕ
head_bytes l = l.kind ++ to_le_bytes w32 (list_size l) ++ to_le_bytes w32 (length l.header) ++ to_le_bytes w32 l.entry_size

-- the head, the header, the entries
abbrev pub list_bytes : SignatureList → List ℕ
list_bytes l = head_bytes l ++ l.header ++ flat_map entry_bytes l.entries

-- SignatureSize counts the owner and the body
pub record IsEntryOf (entry_size : ℕ) (e : Entry) : Type 0 where
  pub owner : length e.owner ≡ 16
  pub size : 16 + length e.body ≡ entry_size

-- the three kinds have no header, and entries of their own size
pub record KeepsKind (l : SignatureList) : Type 0 where
  pub sha256 : l.kind ≡ sha256_kind → (l.header ≡ []) × (l.entry_size ≡ sha256_size)
  pub x509 : l.kind ≡ x509_kind → (l.header ≡ []) × (17 ≤ l.entry_size)
  pub x509_sha256 : l.kind ≡ x509_sha256_kind → (l.header ≡ []) × (l.entry_size ≡ x509_sha256_size)

-- a list that has a spelling: each size fits its u32
pub record IsList (l : SignatureList) : Type 0 where
  pub kind : length l.kind ≡ 16
  pub least : 16 ≤ l.entry_size
  pub entry_fits : l.entry_size < 2 ^ 32
  pub fits : list_size l < 2 ^ 32
  pub entries : AllByRecursion (IsEntryOf l.entry_size) l.entries
  pub keeps : KeepsKind l

-- the bytes are these lists one after another, and nothing else
abbrev pub Spells : List SignatureList → List ℕ → Type 0
Spells [] bytes = bytes ≡ []
Spells (l ∷ ls) bytes = (rest : List ℕ) × IsList l × (bytes ≡ list_bytes l ++ rest) × Spells ls rest

-- the one spelling of a row
abbrev pub spelling : List SignatureList → List ℕ
spelling ls = flat_map list_bytes ls

-- the bytes are some row
pub record IsRow (bytes : List ℕ) : Type 0 where
  pub row : List SignatureList
  pub spelt : Spells row bytes

-- a list, and where it begins, in bytes from the input's start
pub record Placed : Type 0 where
  pub offset : ℕ
  pub list : SignatureList

-- the lists one after another with their offsets, the first at `at`
abbrev pub placed_from : ℕ → List SignatureList → List Placed
placed_from at [] = []
placed_from at (l ∷ ls) = record { offset = at; list = l } ∷ placed_from (at + list_size l) ls

-- the bytes spell these lists, each at its offset
pub record SpellsPlaced (placed : List Placed) (bytes : List ℕ) : Type 0 where
  pub row : List SignatureList
  pub spelt : Spells row bytes
  pub places : placed ≡ placed_from 0 row
