-- The reading of lists from the front of bytes (UEFI 2.10, section 32.4.1), apart from their
-- spelling.
use Rattle.std.specs.Prelude.{ℕ, zero, suc, ◌+◌, ◌-◌, ◌/◌, ◌%◌, ◌==◌, ◌&&◌, nat_lt, List, [], ◌∷◌, length, take, drop, Option, Some, None, if◌then◌else◌}
use Rattle.siglist.specs.Heads.{size_at, header_size_at, entry_size_at}
use Rattle.siglist.specs.Kinds.{kind_of, is_bare, suits}
use Rattle.siglist.specs.SignatureLists.{Entry, Placed, SignatureList}
use Rattle.siglist.specs.declared.fault.Lack.{Lack}
use Rattle.siglist.specs.declared.fault.Lack.TheVariants as lack

-- the number of bytes of the entries
abbrev pub entries_size_at : List ℕ → ℕ
entries_size_at b = size_at b - (28 + header_size_at b)

-- own: why there is no list at the front of these bytes; List comes before EntrySize
unfoldable pub lack_at : List ℕ → Option Lack
lack_at b =
    if nat_lt (length b) 28 then Some lack.List
    else if nat_lt (size_at b) (28 + header_size_at b) then Some lack.List
    else if nat_lt (length b) (size_at b) then Some lack.List
    else if nat_lt 0 (header_size_at b) && is_bare (kind_of (take 16 b)) then Some lack.List
    else if nat_lt (entry_size_at b) 16 then Some lack.EntrySize
    else if suits (kind_of (take 16 b)) (entry_size_at b)
    then (if entries_size_at b % entry_size_at b == 0 then None else Some lack.EntrySize)
    else Some lack.EntrySize

-- the first n entries of this size
abbrev pub entries_of : ℕ → ℕ → List ℕ → List Entry
entries_of zero size b = []
entries_of (suc n) size b = record { owner = take 16 b; body = take (size - 16) (drop 16 b) } ∷ entries_of n size (drop size b)

-- the list at the front with these sizes: of the list, its header and one entry
unfoldable pub list_with : List ℕ → ℕ → ℕ → ℕ → SignatureList
list_with b size header entry = record {
  kind = take 16 b;
  header = take header (drop 28 b);
  entry_size = entry;
  entries = entries_of ((size - (28 + header)) / entry) entry (drop (28 + header) b);
}

-- the list at the front of these bytes, if there is one
abbrev pub front_of : List ℕ → SignatureList
front_of b = list_with b (size_at b) (header_size_at b) (entry_size_at b)

-- the first n lists at most
unfoldable pub row_of : ℕ → List ℕ → List SignatureList
row_of zero b = []
row_of (suc n) [] = []
row_of (suc n) (x ∷ b) = front_of (x ∷ b) ∷ row_of n (drop (size_at (x ∷ b)) (x ∷ b))

-- a list at its offset
abbrev pub placed : ℕ → SignatureList → Placed
placed offset list = record { offset = offset; list = list }
