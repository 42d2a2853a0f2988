-- A query outside a transaction that may end before its answer does.
use Rattle.std.specs.Prelude.{◌≡◌, ◌⊎◌, ℕ, List, [], ◌∷◌, ◌++◌, slice_get, Some, IsTrue}
use Rattle.sqlite.specs.Held.{Held, state}
use Rattle.sqlite.specs.Order.{Row}
use Rattle.sqlite.specs.State.{State, IsRolledBack, IsUnchanged}
use Rattle.sqlite.specs.Store.{Ghosts}
use Rattle.sqlite.specs.Table.{Table}
use Rattle.sqlite.specs.Term.{Term}
use Rattle.sqlite_value.specs.declared.keys.Key.{Key}
use Rattle.store_sql.specs.Contents.{Contents, Holds}
use Rattle.store_sql.specs.Effects.{IsSelected, TakesAll}
use Rattle.store_sql.specs.Layouts.{Fits, Layout}
use Rattle.store_sql.specs.Meanings.{IsPlainIn, SelectsRows}
use Rattle.store_sql.specs.States.{Shows, Spares}

-- a plain text changes nothing, whatever its outcome: the connection still shows the same contents
abbrev pub StaysShown : List ℕ → State → State → Type 0
StaysShown text old new = (layout : Layout) (c : Contents) → IsPlainIn layout text → Shows layout old c → Shows layout new c

-- and a stop leaves only what it could have left before
abbrev pub SparesShown : {S : Type 0} → Ghosts S → List ℕ → Held S → Held S → Type 0
SparesShown g text old new = (layout : Layout) (c : Contents) → IsPlainIn layout text → Shows layout (state g old) c → Spares g old new

-- nothing changed, or uncommitted changes were undone
abbrev pub StaysOrUndoes : State → State → Type 0
StaysOrUndoes old new = IsUnchanged old new ⊎ IsRolledBack old new

-- the rows begin an answer of the query; more may follow
abbrev pub StreamsFirst : List ℕ → Row → State → List Row → Type 0
StreamsFirst text params s given = (layout : Layout) (at : ℕ) (table : Table) (terms : List Term) (order : List (Term × Key)) (rest : List Term) (names : List (List ℕ))
    → SelectsRows layout at table text terms order rest names → Fits layout s.now.schema
    → (more : List Row) × ((c : Contents) (rows : List Row) → Holds layout s.now c → slice_get c at ≡ Some rows → IsSelected table terms order rest params rows (given ++ more))

-- the connection was open, and the rows begin its answer
abbrev pub BeginsAnswer : List ℕ → Row → State → List Row → Type 0
BeginsAnswer text params s given = IsTrue s.is_open × StreamsFirst text params s given

-- the next row was passed on too, and wasn't taken
pub record IsGivenUp {T : Type 0} (gives_up : T → Row → T → Type 0) (text : List ℕ) (params : Row) (s : State) (taken : List Row) (last after : T) : Type 0 where
  pub row : Row
  pub refused : gives_up last row after
  pub begins : BeginsAnswer text params s (taken ++ row ∷ [])

-- The rows taken, one after another, begin an answer, or none was taken.
pub record HandsFirst {T : Type 0} (takes gives_up : T → Row → T → Type 0) (text : List ℕ) (params : Row) (s : State) (before after : T) : Type 0 where
  pub taken : List Row
  pub last : T
  pub handed : TakesAll takes before taken last
  pub begins : (taken ≡ []) ⊎ BeginsAnswer text params s taken
  pub ends : (last ≡ after) ⊎ IsGivenUp gives_up text params s taken last after
