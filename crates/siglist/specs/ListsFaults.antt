-- Faults of bytes that aren't a row of signature lists: the place and the cause (UEFI 2.10, section
-- 32.4.1).
use Rattle.std.specs.Prelude.{◌≡◌, ◌+◌, ◌<◌, ◌⊎◌, ℕ, true, List, ◌++◌, length, take, drop}
use Rattle.base.specs.declared.refusal.Refusal.{Refusal}
use Rattle.base.specs.declared.refusal.Refusal.TheVariants as refusal
use Rattle.siglist.specs.Kinds.{kind_of, is_bare}
use Rattle.siglist.specs.SignatureLists.{SignatureList, IsList, Spells, list_bytes}
use Rattle.siglist.specs.Heads.{size_at, header_size_at}
use Rattle.siglist.specs.declared.fault.Lack.{Lack}
use Rattle.siglist.specs.declared.fault.Lack.TheVariants as lack
use Rattle.siglist.specs.declared.fault.ListsFault.{ListsFault}
use Rattle.siglist.specs.declared.fault.ListsFault.TheVariants as fault

-- there is no list at the front of these bytes
abbrev pub HasNoList : List ℕ → Type 0
HasNoList b = (l : SignatureList) (rest : List ℕ) → IsList l → b ≡ list_bytes l ++ rest → ⊥

-- the bytes before the offset spell a row, and there is no list at the offset
pub record Stops (bytes : List ℕ) (offset : ℕ) : Type 0 where
  pub row : List SignatureList
  pub before : Spells row (take offset bytes)
  pub within : offset < length bytes
  pub none : HasNoList (drop offset bytes)

-- own: fewer than 28 bytes are left, the list's size is below 28 plus its header's, or beyond the
-- end, or one of the three kinds has a header
abbrev pub LacksRoom : List ℕ → Type 0
LacksRoom b = (length b < 28) ⊎ (size_at b < 28 + header_size_at b) ⊎ (length b < size_at b)
    ⊎ ((0 < header_size_at b) × (is_bare (kind_of (take 16 b)) ≡ true))

-- own: reading stops there, by EntrySize only where no condition of List holds
abbrev pub IsRefused : List ℕ → ListsFault → Type 0
IsRefused bytes (fault.List offset) = Stops bytes offset × LacksRoom (drop offset bytes)
IsRefused bytes (fault.EntrySize offset) = Stops bytes offset × (LacksRoom (drop offset bytes) → ⊥)

-- the fault with its offset
abbrev pub fault_of : Lack → ℕ → ListsFault
fault_of lack.List offset = fault.List offset
fault_of lack.EntrySize offset = fault.EntrySize offset

-- own: its row in the table of refusals
abbrev pub refusal_of : ListsFault → Refusal
refusal_of (fault.List offset) = refusal.List
refusal_of (fault.EntrySize offset) = refusal.EntrySize

-- own: its place: the offset of the list that was refused
abbrev pub place_of : ListsFault → ℕ
place_of (fault.List offset) = offset
place_of (fault.EntrySize offset) = offset
