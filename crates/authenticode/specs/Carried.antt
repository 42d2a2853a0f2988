-- The certificates that an image carries in its certificate table.
use Rattle.std.specs.Prelude.{◌≡◌, ◌≢◌, ◌⊎◌, ◌<◌, ◌≤◌, ⊤, ℕ, true, false, List, [], length, drop, map}
use Rattle.base.specs.Digests.{IsArranged}
use Rattle.base.specs.Limits.{most_certificates}
use Rattle.sha2.specs.Sha256.{sha256}
use Rattle.authenticode.specs.Certificates.{IsBodyOf}
use Rattle.authenticode.specs.Walks.{Walks}
use Rattle.authenticode.specs.Table.{body_at, has_no_entry, is_end, next_at, signed_data, type_at}
use Rattle.authenticode.specs.declared.fault.CarriedFault.{CarriedFault}
use Rattle.authenticode.specs.declared.fault.CarriedFault.TheVariants as fault

-- the TBSCertificates that the entry at the front carries. own: an entry of another type carries
-- none
abbrev pub IsEntryOf : List ℕ → List (List ℕ) → Type 0
IsEntryOf t own =
    ((type_at t ≡ signed_data) × IsBodyOf (body_at t) own) ⊎ ((type_at t ≢ signed_data) × (own ≡ []))

-- one entry of a table, the TBSCertificates that it carries, and the bytes from the next entry on
pub record GivesEntry (t : List ℕ) (own : List (List ℕ)) (rest : List ℕ) : Type 0 where
  pub goes_on : is_end t ≡ false
  pub stands : has_no_entry t ≡ false
  pub gives : IsEntryOf t own
  pub rest_is : rest ≡ drop (next_at t) t

-- the entry at the front is of type 2, and no TBSCertificates can be read from its body
pub record IsUnreadable (t : List ℕ) : Type 0 where
  pub stands : has_no_entry t ≡ false
  pub signed : type_at t ≡ signed_data
  pub none : (tbs : List (List ℕ)) → IsBodyOf (body_at t) tbs → ⊥

-- why the entry at the front is refused; NoMemory may come at any time
abbrev pub IsEntryFault : List ℕ → CarriedFault → Type 0
IsEntryFault t fault.Table = has_no_entry t ≡ true
IsEntryFault t fault.Der = IsUnreadable t
IsEntryFault t fault.TooLong = ⊥
IsEntryFault t fault.NoMemory = ⊤

-- the walk over the table reaches its end, and these are the TBSCertificates on the way
pub record IsWalked (table : List ℕ) (tbs : List (List ℕ)) : Type 0 where
  pub left : List ℕ
  pub walk : Walks GivesEntry table tbs left
  pub ended : is_end left ≡ true

-- own: the table carries these digests: the SHA-256 of each TBSCertificate, ascending, each once
pub record Carries (table : List ℕ) (digests : List (List ℕ)) : Type 0 where
  pub tbs : List (List ℕ)
  pub walked : IsWalked table tbs
  pub arranged : IsArranged (map sha256 tbs) digests

-- the same within the limit
abbrev pub IsCarried : List ℕ → List (List ℕ) → Type 0
IsCarried table digests = Carries table digests × (length digests ≤ most_certificates)

-- own: the table carries more than the limit, and has no other fault
pub record PassesLimit (table : List ℕ) : Type 0 where
  pub digests : List (List ℕ)
  pub carries : Carries table digests
  pub many : most_certificates < length digests

-- the walk over the table comes to bytes that aren't its end, and are refused for this fault
pub record MeetsFault (table : List ℕ) (fault : CarriedFault) : Type 0 where
  pub tbs : List (List ℕ)
  pub left : List ℕ
  pub walk : Walks GivesEntry table tbs left
  pub goes_on : is_end left ≡ false
  pub refused : IsEntryFault left fault

-- own: the table is refused for the first fault of the walk; NoMemory may come at any time
abbrev pub IsFirstFault : List ℕ → CarriedFault → Type 0
IsFirstFault table fault.Table = MeetsFault table fault.Table
IsFirstFault table fault.Der = MeetsFault table fault.Der
IsFirstFault table fault.TooLong = PassesLimit table
IsFirstFault table fault.NoMemory = ⊤
