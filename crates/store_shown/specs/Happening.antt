-- What happened to requests, by their rows. Auditors needn't believe these words.
use Rattle.std.specs.Prelude.{◌≡◌, ℕ, ◌+◌, ◌==◌, Bool, true, false, List, [], ◌∷◌, filter, length}
use Rattle.desk_types.specs.declared.command.Person.{Person}
use Rattle.desk_types.specs.declared.role.Role.{Role}
use Rattle.desk_types.specs.declared.role.Role.TheVariants as roles
use Rattle.desk_exports.specs.Changes.{end_of}
use Rattle.desk_history.specs.Tables.{Tables}
use Rattle.desk_history.specs.declared.rows.RequestRow.{RequestRow}
use Rattle.store_proposals.specs.Numbered.{AreNumbered}
use Rattle.store_shown.specs.Steps.{rows_at, sees_row}

-- the role is a submitter's
abbrev pub is_submitter : Role → Bool
is_submitter roles.Submitter = true
is_submitter roles.Reviewer = false
is_submitter roles.Officer = false
is_submitter roles.Signer = false

-- what happened to the request of the row: it was submitted, each vote came, and it ended
abbrev pub events_in : Tables → RequestRow → ℕ
events_in t row = 1 + length (filter (λ v. row.number == v.request) t.votes) + end_of row.state

-- what happened to all of these
abbrev pub events_of : Tables → List RequestRow → ℕ
events_of t [] = 0
events_of t (row ∷ rows) = events_in t row + events_of t rows

-- the row of this number is read, the only one, and so much happened to it, if the person is shown it
pub record HappenedTo (reader : Person) (t : Tables) (k n : ℕ) : Type 0 where
  pub row : RequestRow
  pub is : rows_at t k ≡ row ∷ []
  pub many : n ≡ events_of t (filter (sees_row reader) (row ∷ []))

-- the rows of the first numbers are read, and so much happened to those that the person is shown
pub record HappenedToFirst (reader : Person) (t : Tables) (count n : ℕ) : Type 0 where
  pub rows : List RequestRow
  pub numbered : AreNumbered (rows_at t) 1 rows
  pub reached : length rows ≡ count
  pub many : n ≡ events_of t (filter (sees_row reader) rows)
