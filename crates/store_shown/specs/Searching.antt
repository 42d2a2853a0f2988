-- The search for the requests that have a digest, step by step. Auditors needn't believe these words.
use Rattle.std.specs.Prelude.{◌≡◌, ◌⊎◌, ◌≤◌, ℕ, zero, suc, ◌+◌, Bool, true, false, List, [], ◌∷◌, filter, length, slice_index_or}
use Rattle.std.specs.List.{All, AllZip}
use Rattle.desk_types.specs.declared.command.Person.{Person}
use Rattle.desk_types.specs.declared.shown.ShownRequest.{ShownRequest}
use Rattle.desk_history.specs.Tables.{Tables}
use Rattle.desk_history.specs.declared.rows.RequestRow.{RequestRow}
use Rattle.store_reads.specs.Numbers.{numbers_in}
use Rattle.store_reads.specs.declared.digest_numbers.DigestColumn.{DigestColumn}
use Rattle.store_shown.specs.Choosing.{TakesNumbered, keeps_shown, picks_row}
use Rattle.store_shown.specs.Steps.{IsShownIn, rows_at}
use Rattle.store_shown.specs.declared.choice.Choice.{Choice}

-- ---- marks: a flag for each number, from 0 on

-- the number is marked
abbrev pub is_marked : List Bool → ℕ → Bool
is_marked marks k = slice_index_or marks k false

-- all of these numbers are marked
abbrev pub AreMarked : List Bool → List ℕ → Type 0
AreMarked marks numbers = All (λ k. is_marked marks k ≡ true) numbers

-- there are as many marks as before, and what was marked still is
pub record KeepsMarks (old new : List Bool) : Type 0 where
  pub many : length new ≡ length old
  pub each : (k : ℕ) → is_marked old k ≡ true → is_marked new k ≡ true

-- the requests are marked that have the digest in this column
abbrev pub MarksColumn : List ℕ → List Bool → Tables → DigestColumn → Type 0
MarksColumn digest marks t column = AreMarked marks (numbers_in column digest t)

-- the requests are marked that have the digest in any column
abbrev pub MarksAll : List ℕ → List Bool → Tables → Type 0
MarksAll digest marks t = (column : DigestColumn) → MarksColumn digest marks t column

-- ---- the marked requests, by number

-- so many numbers from k on
abbrev pub numbers_from : ℕ → ℕ → List ℕ
numbers_from k zero = []
numbers_from k (suc n) = k ∷ numbers_from (k + 1) n

module _ (choice : Choice) (reader : Person) (t : Tables) where
  -- a request that isn't marked leaves the list as it is; a marked one is read, and taken if it is
  -- chosen
  abbrev pub TakesMarked : Bool → ℕ → (List ShownRequest → Type 0) → (List ShownRequest → Type 0) → Bool → Type 0
  TakesMarked false k before after is_taken = ((held : List ShownRequest) → before held → after held) × (is_taken ≡ false)
  TakesMarked true k before after is_taken = TakesNumbered choice reader t k before after is_taken

  module _ (marks : List Bool) where
    -- The rows of the marked numbers up to n are read; the list holds so many requests: those of the
    -- rows that are picked, if they are kept, in their order.
    pub record FindsAfter (n many : ℕ) (holds : List ShownRequest → Type 0) : Type 0 where
      pub rows : List RequestRow
      pub read : AllZip (λ k row. rows_at t k ≡ row ∷ []) (filter (is_marked marks) (numbers_from 1 n)) rows
      pub made : List ShownRequest
      pub are : AllZip (IsShownIn t) (filter (picks_row choice reader) rows) made
      pub held : holds (filter (keeps_shown choice reader) made)
      pub count : length (filter (keeps_shown choice reader) made) ≡ many

    -- the marked numbers are read so, up to the last or until the list holds so many
    pub record FindsUpTo (last most : ℕ) (holds : List ShownRequest → Type 0) : Type 0 where
      pub reached : ℕ
      pub many : ℕ
      pub finds : FindsAfter reached many holds
      pub within : reached ≤ last
      pub few : many ≤ most
      pub ends : (many ≡ most) ⊎ (reached ≡ last)
