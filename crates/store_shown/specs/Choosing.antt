-- Which of the requests that a person may see are listed, step by step. Auditors needn't believe these
-- words.
use Rattle.std.specs.Prelude.{◌≡◌, ◌⊎◌, ◌≤◌, ◌||◌, ℕ, ◌+◌, Bool, true, false, not, List, [], ◌∷◌, ◌++◌, filter, length, Option, Some, None, bytes_eq}
use Rattle.std.specs.List.{AllZip, list_any}
use mir.Val.{bool_byte}
use Rattle.desk_types.specs.declared.command.Person.{Person}
use Rattle.desk_types.specs.declared.shown.ShownRequest.{ShownRequest}
use Rattle.desk_types.specs.declared.shown.ShownReturn.{ShownReturn}
use Rattle.desk_types.specs.declared.shown.ShownVote.{ShownVote}
use Rattle.desk_history.specs.Tables.{Tables}
use Rattle.desk_exports.specs.DigestSearch.{is_of_facts}
use Rattle.desk_exports.specs.Waiting.{may_wait}
use Rattle.desk_history.specs.declared.rows.RequestRow.{RequestRow}
use Rattle.store_proposals.specs.Numbered.{AreNumbered}
use Rattle.store_shown.specs.Steps.{IsShownIn, rows_at, sees_row}
use Rattle.store_shown.specs.declared.choice.Choice.{Choice}
use Rattle.store_shown.specs.declared.choice.Choice.TheVariants as choices

-- the request of this row may be listed
abbrev pub picks_row : Choice → Person → RequestRow → Bool
picks_row choices.Shown reader row = sees_row reader row
picks_row (choices.With digest) reader row = sees_row reader row
picks_row choices.Waiting reader row = may_wait reader.role (bytes_eq reader.name row.submitter) row.state

-- one of the votes is the person's
abbrev pub has_voted : Person → List ShownVote → Bool
has_voted reader votes = list_any (λ v. bytes_eq reader.name v.reviewer) votes

-- the digest is the SHA-256 of the returned file, or its image's
abbrev pub is_of_return : List ℕ → Option ShownReturn → Bool
is_of_return d None = false
is_of_return d (Some r) = bytes_eq d r.file || bytes_eq d r.digest

-- the request has the digest
abbrev pub has_digest : List ℕ → ShownRequest → Bool
has_digest d s = is_of_facts d s.facts || is_of_return d s.returned

-- the request is listed, if its row may be
abbrev pub keeps_shown : Choice → Person → ShownRequest → Bool
keeps_shown choices.Shown reader s = true
keeps_shown choices.Waiting reader s = not (has_voted reader s.votes)
keeps_shown (choices.With digest) reader s = has_digest digest s

module _ (choice : Choice) (reader : Person) (t : Tables) where
  -- The row of this number is read, the only one, and where it is picked, its request is made. The
  -- list takes in what is kept of it.
  pub record TakesNumbered (k : ℕ) (before after : List ShownRequest → Type 0) (is_taken : Bool) : Type 0 where
    pub row : RequestRow
    pub is : rows_at t k ≡ row ∷ []
    pub made : List ShownRequest
    pub are : AllZip (IsShownIn t) (filter (picks_row choice reader) (row ∷ [])) made
    pub takes : (held : List ShownRequest) → before held → after (held ++ filter (keeps_shown choice reader) made)
    pub count : length (filter (keeps_shown choice reader) made) ≡ bool_byte is_taken

  -- The rows of the numbers after k up to n are read; the list holds so many requests: those of the
  -- rows that are picked, if they are kept, in their order.
  pub record ListsAfter (k n many : ℕ) (holds : List ShownRequest → Type 0) : Type 0 where
    pub rows : List RequestRow
    pub numbered : AreNumbered (rows_at t) (k + 1) rows
    pub reached : k + length rows ≡ n
    pub made : List ShownRequest
    pub are : AllZip (IsShownIn t) (filter (picks_row choice reader) rows) made
    pub held : holds (filter (keeps_shown choice reader) made)
    pub count : length (filter (keeps_shown choice reader) made) ≡ many

  -- the rows of the numbers after k are read so, up to the last or until the list holds so many
  pub record ListsUpTo (k last most : ℕ) (holds : List ShownRequest → Type 0) : Type 0 where
    pub reached : ℕ
    pub many : ℕ
    pub lists : ListsAfter k reached many holds
    pub within : reached ≤ last
    pub few : many ≤ most
    pub ends : (many ≡ most) ⊎ (reached ≡ last)
