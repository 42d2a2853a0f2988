-- The effect of each kind of statement on the contents of a store, for any layout of its tables and
-- any number of matching rows.
use Rattle.std.specs.Prelude.{◌≡◌, ℕ, min, List, [], ◌∷◌, ◌++◌, length, map, filter, not, Bool, if◌then◌else◌, slice_get, Some}
use Rattle.std.specs.List.Sorted.{IsPermutation, IsSorted}
use Rattle.sqlite.specs.Cast.{cast_row}
use Rattle.sqlite.specs.Change.{created}
use Rattle.sqlite.specs.Edit.{with_rowid}
use Rattle.sqlite.specs.Order.{Row}
use Rattle.sqlite.specs.Rowids.TheVariants.{Chosen}
use Rattle.sqlite.specs.Schema.{Schema}
use Rattle.sqlite.specs.State.{State, IsUnchanged}
use Rattle.sqlite.specs.Table.{Table}
use Rattle.sqlite.specs.Term.{Term, eval_all}
use Rattle.sqlite_value.specs.declared.keys.Key.{Key}
use Rattle.store_sql.specs.Contents.{Contents, Holds, change_at, seen, whole}
use Rattle.store_sql.specs.Layouts.{Fits, Layout}
use Rattle.store_sql.specs.Meanings.{InsertsRow, UpdatesRows, DeletesRows, SelectsRows, CountsRows, MakesTable, MakeTables, schema_after}
use Rattle.store_sql.specs.Queries.{meets, projected, rewritten, keys_of, by_keys}
use Rattle.store_sql.specs.States.{Sees, Moves, Makes}

-- the row satisfies the terms
abbrev pub passes : Table → List Term → Row → Row → Bool
passes table terms params row = meets terms params (whole table row)

-- the row after an UPDATE: rewritten if it satisfies the terms, otherwise unchanged
abbrev pub updated : Table → List Term → List Term → Row → Row → Row
updated table terms rest params row = if passes table terms params row then seen table (rewritten table rest params (whole table row)) else row

-- the columns that a SELECT shows of the row
abbrev pub shown_of : Table → List Term → Row → Row → Row
shown_of table project params row = projected project params (whole table row)

-- the row that an INSERT adds, whatever rows are there
abbrev pub IsInserted : Table → List Term → Row → Row → Type 0
IsInserted table terms params row = (rows : List Row) → seen table (with_rowid Chosen rows (cast_row table (eval_all terms (params ∷ [])))) ≡ row

-- ---- the effects of a text with its parameters, if it means one of these

-- INSERT: this row is added to its table, and no other table changes
abbrev pub Inserts : List ℕ → Row → State → State → Type 0
Inserts text params old new = (layout : Layout) (at : ℕ) (table : Table) (terms : List Term) (row : Row) → InsertsRow layout at table text terms → IsInserted table terms params row
    → Moves layout (change_at at (λ rows. row ∷ rows)) old new

-- UPDATE: the rows of one table that satisfy WHERE are rewritten, and all else stays
abbrev pub Updates : List ℕ → Row → State → State → Type 0
Updates text params old new = (layout : Layout) (at : ℕ) (table : Table) (terms rest : List Term) → UpdatesRows layout at table text terms rest
    → Moves layout (change_at at (map (updated table terms rest params))) old new

-- DELETE: the rows of one table that satisfy WHERE are deleted, and all else stays
abbrev pub Deletes : List ℕ → Row → State → State → Type 0
Deletes text params old new = (layout : Layout) (at : ℕ) (table : Table) (terms : List Term) → DeletesRows layout at table text terms
    → Moves layout (change_at at (filter (λ r. not (passes table terms params r)))) old new

-- CREATE TABLE: an empty table comes after the others, whose rows stay
abbrev pub Creates : List ℕ → State → State → Type 0
Creates text old new = (schema : Schema) (table : Table) → MakesTable schema table text → Makes old new schema (created schema table) (table ∷ [])

-- CREATE TABLE of each text: the empty tables come in the order of the texts
abbrev pub CreatesAll : List (List ℕ) → State → State → Type 0
CreatesAll texts old new = (schema : Schema) (tables : List Table) → MakeTables schema tables texts → Makes old new schema (schema_after schema tables) tables

-- the answer is the query's columns of the rows that satisfy the terms, all and only those, in the
-- requested order
pub record IsSelected (table : Table) (terms : List Term) (order : List (Term × Key)) (rest : List Term) (params : Row) (rows answer : List Row) : Type 0 where
  pub same : IsPermutation (map (shown_of table (keys_of order ++ rest) params) (filter (passes table terms params) rows)) answer
  pub sorted : IsSorted (by_keys order) answer

-- a query changes nothing
abbrev pub Selects : List ℕ → Row → State → State → List Row → Type 0
Selects text params old new answer = (layout : Layout) (at : ℕ) (table : Table) (terms : List Term) (order : List (Term × Key)) (rest : List Term) (names : List (List ℕ))
    → SelectsRows layout at table text terms order rest names → Moves layout (λ c. c) old new
    × ((c : Contents) (rows : List Row) → Sees layout old c → slice_get c at ≡ Some rows → IsSelected table terms order rest params rows answer)

-- outside a transaction, over the contents of the database; a query still changes nothing
abbrev pub Streams : List ℕ → Row → State → State → List Row → Type 0
Streams text params old new answer = (layout : Layout) (at : ℕ) (table : Table) (terms : List Term) (order : List (Term × Key)) (rest : List Term) (names : List (List ℕ))
    → SelectsRows layout at table text terms order rest names → Fits layout old.now.schema → IsUnchanged old new
    × ((c : Contents) (rows : List Row) → Holds layout old.now c → slice_get c at ≡ Some rows → IsSelected table terms order rest params rows answer)

-- a taker was passed these rows, one after another, and no others
abbrev pub TakesAll : {T : Type 0} → (T → Row → T → Type 0) → T → List Row → T → Type 0
TakesAll takes old [] new = old ≡ new
TakesAll {T = T} takes old (row ∷ rows) new = (mid : T) × takes old row mid × TakesAll takes mid rows new

-- the rows that were passed on, in this order, are the whole answer
pub record HandsOver {T : Type 0} (takes : T → Row → T → Type 0) (text : List ℕ) (params : Row) (old new : State) (before after : T) : Type 0 where
  pub answer : List Row
  pub handed : TakesAll takes before answer after
  pub exact : Streams text params old new answer

-- a count stops at the greatest integer of SQL
abbrev pub counted : ℕ → ℕ
counted n = min n 9223372036854775807

-- SELECT count(*): how many rows of the table satisfy WHERE; nothing changes
abbrev pub Counts : List ℕ → Row → State → State → ℕ → Type 0
Counts text params old new n = (layout : Layout) (at : ℕ) (table : Table) (terms : List Term) (names : List (List ℕ))
    → CountsRows layout at table text terms names → Moves layout (λ c. c) old new
    × ((c : Contents) (rows : List Row) → Sees layout old c → slice_get c at ≡ Some rows → n ≡ counted (length (filter (passes table terms params) rows)))
