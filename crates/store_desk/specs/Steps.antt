-- The steps of a transaction, from the connection before and after them.
use Rattle.std.specs.Prelude.{◌≡◌, ◌≢◌, ◌⊎◌, ℕ, ℤ, pos, List, [], codes, slice_get, Some, Err, false, is_some, IfErr, IfOk, IsTrue, OnOk, Result, MatchResult}
use Rattle.sqlite.specs.Effect.{IsDatabase}
use Rattle.sqlite.specs.Held.{Held, state}
use Rattle.sqlite.specs.Listing.{understood}
use Rattle.sqlite.specs.Order.{Row}
use Rattle.sqlite.specs.Schema.{Schema}
use Rattle.sqlite.specs.State.{State, HasCleanDisk, KeepsCommit}
use Rattle.sqlite.specs.Store.{Ghosts}
use Rattle.sqlite.specs.Tree.{Trees}
use Rattle.sqlite.specs.declared.error.Error.{Error}
use Rattle.sqlite.specs.declared.error.Error.TheVariants.{SqlInputError}
use Rattle.sqlite_resolve.specs.declared.error.CompileError.{CompileError}
use Rattle.sqlite_schema.specs.Names.{table_named}
use Rattle.base.specs.declared.refusal.Refusal.{Refusal}
use Rattle.base.specs.declared.refusal.Refusal.TheVariants as refusals
use Rattle.desk_history.specs.Calls.{History}
use Rattle.desk_history.specs.Level.{stamp}
use Rattle.store_reads.specs.Failures.{IsFailure}
use Rattle.store_reads.specs.Own.{ReadsAs, ReadsAsNone, ReadsBy, ShowsOwn}
use Rattle.store_reads.specs.declared.desk_row.OwnRow.{OwnRow}
use Rattle.store_sql.specs.Contents.{Contents}
use Rattle.store_sql.specs.Layouts.{Layout}
use Rattle.store_sql.specs.States.{Sees, Shows, Spares}
use Rattle.store_schema.specs.Names.{takes_an_added_name}
use Rattle.store_schema.specs.Tables.{desk_layout, first_layout, no_schema}
use Rattle.store_schema.specs.declared.selecting.TheConstants.{SELECT_DESK}
use Rattle.store_schema.specs.rows.Histories.{ShowsFirst, ShowsHistory, rows_of}
use Rattle.store_migration.specs.Migrations.{KeepsShown, Migrates}
use Rattle.store_desk.specs.Founding.{FoundsBeside}
use Rattle.store_desk.specs.Rows.{AreOf}

-- The desk's tables are made with the rows of a desk without calls: in a sound store without tables,
-- and beside others. Nothing is committed.
pub record MakesDesk (old new : State) (owner : List ℕ) : Type 0 where
  pub is_open : IsTrue old.is_open → IsTrue new.is_open
  pub inside : IsTrue new.in_transaction
  pub kept : KeepsCommit old new
  pub value : IsDatabase old.now → old.now.schema ≡ no_schema → Sees desk_layout new (rows_of owner [])
  pub beside : FoundsBeside old new owner

-- the error is a compile error of the text
abbrev pub RefusesText : Error → Type 0
RefusesText e = (fault : CompileError) × (e ≡ SqlInputError fault)

-- the layouts of a desk's store, of either version
abbrev pub IsDeskLayout : Layout → Type 0
IsDeskLayout layout = (layout ≡ first_layout) ⊎ (layout ≡ desk_layout)

-- ---- what SQL shows of the desk's own row, whatever tables the store has

-- the schema has a table `desk`
abbrev pub HasDesk : Schema → Type 0
HasDesk schema = IsTrue (is_some (table_named schema (codes "desk")))

-- It has none, or the query for its row isn't understood: a column is missing.
abbrev pub LacksRow : Schema → Type 0
LacksRow schema = (is_some (table_named schema (codes "desk")) ≡ false)
    ⊎ ((fault : CompileError) × (understood schema SELECT_DESK.now ≡ Err fault))

-- to a connection that sees the same database the query shows an answer of which this holds
abbrev pub AnswersRow : {S : Type 0} → Ghosts S → Held S → (List Row → Type 0) → Type 0
AnswersRow {S} g conn told = (before after : Held S) × ((state g before).now ≡ (state g conn).now) × ShowsOwn (state g before) (state g after) told

-- it reads as the row of a desk of this version
abbrev pub ReadsVersion : {S : Type 0} → Ghosts S → Held S → ℤ → Type 0
ReadsVersion g conn version = AnswersRow g conn (λ answer. ReadsAs answer version)

-- it reads as the row of a desk of another version
abbrev pub ReadsOther : {S : Type 0} → Ghosts S → Held S → Type 0
ReadsOther g conn = (version : ℤ) × (version ≢ pos 1) × (version ≢ pos 2) × ReadsVersion g conn version

-- no answer reads as the row of a desk
abbrev pub ReadsNone : {S : Type 0} → Ghosts S → Held S → Type 0
ReadsNone g conn = LacksRow (state g conn).now.schema ⊎ AnswersRow g conn ReadsAsNone

-- ---- what was read

-- a device failed, or the query isn't understood in the open store
abbrev pub RefusesColumns : State → Refusal → Type 0
RefusesColumns s refusal = IsFailure refusal ⊎ ((refusal ≡ refusals.NotADesk) × IsTrue s.is_open × LacksRow s.now.schema)

-- a device failed, or there is no desk
abbrev pub IsReadRefusal : Refusal → Type 0
IsReadRefusal refusal = (refusal ≡ refusals.NotADesk) ⊎ IsFailure refusal

-- the store is open if a desk's row was read, or if there is no desk
abbrev pub TellsOpen : State → Result OwnRow Refusal → Type 0
TellsOpen s result = MatchResult result (λ _. IsTrue s.is_open) (λ refusal. refusal ≡ refusals.NotADesk → IsTrue s.is_open)

-- what was read of the desk's row, or that there is none
pub record TellsInside {S : Type 0} (g : Ghosts S) (conn : Held S) (result : Result OwnRow Refusal) : Type 0 where
  pub is_open : TellsOpen (state g conn) result
  pub read : IfOk result (λ own. AnswersRow g conn (λ answer. ReadsBy answer own))
  pub unread : IfErr result (λ refusal. refusal ≡ refusals.NotADesk → ReadsNone g conn)

-- the same, of a table
pub record TellsOutside {S : Type 0} (g : Ghosts S) (conn : Held S) (result : Result OwnRow Refusal) : Type 0 where
  pub told : TellsInside g conn result
  pub named : OnOk result (HasDesk (state g conn).now.schema)

-- A connection that was only read: it shows what it showed, an open one has the same schema, and a
-- stop leaves nothing new.
pub record OnlyLooks {S : Type 0} (g : Ghosts S) (old new : Held S) : Type 0 where
  pub shown : HasCleanDisk (state g new) → KeepsShown (state g old) (state g new)
  pub schema : HasCleanDisk (state g new) → IsTrue (state g new).is_open → (state g new).now.schema ≡ (state g old).now.schema
  pub spares : Spares g old new

-- ---- the desk that an opening finds, by the open connection before it

-- a desk of version 2, or one of version 1 with the names that version 2 adds free
abbrev pub FindsKnown : {S : Type 0} → Ghosts S → Held S → Type 0
FindsKnown g conn = IsTrue (state g conn).is_open × HasDesk (state g conn).now.schema
    × (ReadsVersion g conn (pos 2) ⊎ (ReadsVersion g conn (pos 1) × (takes_an_added_name (state g conn).now.schema ≡ false)))

-- a desk of another version
abbrev pub FindsOther : {S : Type 0} → Ghosts S → Held S → Type 0
FindsOther g conn = IsTrue (state g conn).is_open × HasDesk (state g conn).now.schema × ReadsOther g conn

-- no desk, or one of version 1 in which one of these names is taken
abbrev pub FindsNone : {S : Type 0} → Ghosts S → Held S → Type 0
FindsNone g conn = IsTrue (state g conn).is_open
    × (ReadsNone g conn ⊎ (ReadsVersion g conn (pos 1) × IsTrue (takes_an_added_name (state g conn).now.schema)))

-- ---- the same by the rows of a desk's tables, of either version

-- this holds of the layout and of the rows of `desk`
abbrev pub ShowsRows : State → (Layout → List Row → Type 0) → Type 0
ShowsRows s told =
    (layout : Layout) (c : Contents) (rows : List Row) → IsDeskLayout layout → Shows layout s c → slice_get c 0 ≡ Some rows → told layout rows

-- they read as those of a desk of this version
abbrev pub AreShownAs : State → ℤ → Type 0
AreShownAs s version = ShowsRows s (λ _ rows. AreOf rows version)

-- the owner and the stamp are those of each history that it shows, in either version
abbrev pub IsOwnOf : State → OwnRow → Type 0
IsOwnOf s own = (owner : List ℕ) (cs : History) → ShowsFirst s owner cs ⊎ ShowsHistory s owner cs → (own.owner ≡ owner) × (own.stamp ≡ stamp cs)

-- the result of an opening that may commit, which only version 1 allows: the tables of version 2,
-- of each history that the connection showed in version 1
abbrev pub Brings : State → Trees → Type 0
Brings s db = AreShownAs s (pos 1) × Migrates s db
