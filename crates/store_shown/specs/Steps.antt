-- The reads of a request, part by part. Auditors needn't believe these words.
use Rattle.std.specs.Prelude.{◌≡◌, ℕ, ◌==◌, Bool, List, map, filter, bytes_eq, if◌then◌else◌, Option, Some, None, option_map, MatchOption, IsTrue}
use Rattle.std.specs.List.Sorted.{IsPermutation}
use Rattle.base.specs.Digests.{IsArranged}
use Rattle.desk_types.specs.declared.command.Person.{Person}
use Rattle.desk_types.specs.declared.shown.ShownRequest.{ShownRequest}
use Rattle.desk_types.specs.declared.shown.ShownReturn.{ShownReturn}
use Rattle.desk_types.specs.Shown.{AreByReviewer}
use Rattle.desk_history.specs.Roles.{is_officer}
use Rattle.desk_history.specs.Shown.{sees, shown_vote}
use Rattle.desk_history.specs.Tables.{Tables, placed_from}
use Rattle.desk_history.specs.declared.rows.RequestCertificateRow.{RequestCertificateRow}
use Rattle.desk_history.specs.declared.rows.RequestRow.{RequestRow}
use Rattle.desk_history.specs.declared.rows.ReturnRow.{ReturnRow}
use Rattle.store_reads.specs.Reads.{listed}
use Rattle.store_shown.specs.declared.parts.Parts.{Parts}

-- the person who is kept has this name and is an officer
abbrev pub KeepsOfficer : Option Person → List ℕ → Type 0
KeepsOfficer kept name = MatchOption kept ⊥ (λ p. (name ≡ p.name) × IsTrue (is_officer p.role))

-- a returned file's row, as it is shown
abbrev pub shown_row : ReturnRow → ShownReturn
shown_row r = record { length = r.length; file = r.file; digest = r.digest }

-- the certificates of rows
abbrev pub digests_of : List RequestCertificateRow → List (List ℕ)
digests_of rows = map (λ r. r.digest) rows

-- the rows of these tables that belong to the request of this number
pub record ArePartsOf (parts : Parts) (t : Tables) (k : ℕ) : Type 0 where
  pub certificates : IsPermutation (filter (λ r. k == r.request) t.request_certificates) parts.certificates.items
  pub components : IsPermutation (filter (λ r. k == r.request) t.request_components) parts.components.items
  pub votes : IsPermutation (filter (λ v. k == v.request) t.votes) parts.votes.items
  pub returned : filter (λ r. k == r.request) t.returns ≡ listed parts.returned

-- the request's row and the rows that belong to it, as they are shown
pub record IsMadeOf (row : RequestRow) (parts : Parts) (s : ShownRequest) : Type 0 where
  pub number : s.number ≡ row.number
  pub submitter : s.submitter ≡ row.submitter
  pub title : s.title ≡ row.title
  pub state : s.state ≡ row.state
  pub extent : s.facts.extent ≡ record { length = row.length; gap = row.gap }
  pub file : s.facts.file ≡ row.file
  pub digest : s.facts.digest ≡ row.digest
  pub signing : s.facts.signing ≡ row.signing
  pub carried : IsArranged (digests_of parts.certificates.items) s.facts.carried
  pub components : parts.components.items ≡ placed_from row.number 0 s.facts.components
  pub votes : IsPermutation (map shown_vote parts.votes.items) s.votes
  pub order : AreByReviewer s.votes
  pub returned : s.returned ≡ option_map shown_row parts.returned

-- the request's row is shown with the rows of these tables that belong to it
pub record IsShownIn (t : Tables) (row : RequestRow) (s : ShownRequest) : Type 0 where
  pub parts : Parts
  pub are : ArePartsOf parts t row.number
  pub made : IsMadeOf row parts s

-- the person is shown the request of this row
abbrev pub sees_row : Person → RequestRow → Bool
sees_row reader row = sees reader.role (bytes_eq reader.name row.submitter)

-- the rows of this number
abbrev pub rows_at : Tables → ℕ → List RequestRow
rows_at t k = filter (λ r. k == r.number) t.requests

-- the row, if it is there and the person is shown its request
abbrev pub visible_row : Person → Option RequestRow → Option RequestRow
visible_row reader None = None
visible_row reader (Some row) = if sees_row reader row then Some row else None
