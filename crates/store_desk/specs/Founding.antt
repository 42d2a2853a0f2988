-- The founding of a desk in a store that has other tables.
use Rattle.std.specs.Prelude.{◌≡◌, ℕ, ◌+◌, List, [], ◌∷◌, ◌++◌, length, map, codes, None}
use Rattle.sqlite.specs.Change.{created}
use Rattle.sqlite.specs.Kind.TheVariants.{Text}
use Rattle.sqlite.specs.Schema.{Schema}
use Rattle.sqlite.specs.State.{State}
use Rattle.sqlite.specs.Tree.{Trees}
use Rattle.desk_history.specs.Tables.{tables}
use Rattle.store_sql.specs.Contents.{AreTablesOf, Contents, Holds}
use Rattle.store_sql.specs.Layouts.{alone}
use Rattle.store_sql.specs.Meanings.{MakeTables, schema_after}
use Rattle.store_schema.specs.Tables.{added_tables, column_of, defined, first_tables, no_schema, table_of}
use Rattle.store_schema.specs.declared.creating.TheConstants.{CREATE_ADDED_TABLES, CREATE_TABLES}
use Rattle.store_schema.specs.rows.Histories.{HoldsHistory, rows_of}
use Rattle.store_schema.specs.rows.Values.{desk_values, migrated_values}
use Rattle.store_writes.specs.Founding.{PutsBoth}

-- the twelve tables of version 1 after those of the schema
abbrev pub with_first : Schema → Schema
with_first schema = schema_after schema (map defined first_tables)

-- the fifteen tables after those of the schema
abbrev pub with_all : Schema → Schema
with_all schema = schema_after (with_first schema) (map defined added_tables)

-- A desk can be founded beside these tables, as computing shows for a known schema: in it SQL reads
-- the texts of CREATE TABLE as the fifteen tables, and after them the two INSERTs as those of the
-- desk's own row and of the one that says that no call was accepted by the first rules.
pub record AllowsDesk (schema : Schema) (owner : List ℕ) : Type 0 where
  pub first : MakeTables schema (map defined first_tables) (map (λ t. t.now) CREATE_TABLES)
  pub added : MakeTables (with_first schema) (map defined added_tables) (map (λ t. t.now) CREATE_ADDED_TABLES)
  pub puts : PutsBoth (alone (with_all schema)) owner
  pub own_at : puts.own.at ≡ length schema.tables
  pub own_row : puts.own.row ≡ desk_values (tables owner []).desk
  pub calls_at : puts.calls.at ≡ length schema.tables + 14
  pub calls_row : puts.calls.row ≡ migrated_values (record { id = 1; calls = 0 })

-- own: the schema of a store with one table of somebody else's: notes, each a text
abbrev pub notes_schema : Schema
notes_schema = created no_schema (table_of (codes "notes") 0 (column_of (codes "note") Text ∷ []) None [] [])

-- a desk of any owner can be founded beside it
abbrev pub NotesAllowADesk : Type 0
NotesAllowADesk = (owner : List ℕ) → AllowsDesk notes_schema owner

-- Inside a transaction: a store of such tables keeps their rows, and has after them the fifteen with
-- the rows of a desk without calls.
abbrev pub FoundsBeside : State → State → List ℕ → Type 0
FoundsBeside old new owner =
    (schema : Schema) (c : Contents) → AllowsDesk schema owner → Holds (alone schema) old.now c → Holds (alone (with_all schema)) new.now (c ++ rows_of owner [])

-- the same, committed
abbrev pub HasFoundedBeside : State → State → List ℕ → Type 0
HasFoundedBeside old new owner =
    (schema : Schema) (c : Contents) → AllowsDesk schema owner → Holds (alone schema) old.now c
    → Holds (alone (with_all schema)) new.now (c ++ rows_of owner []) × (new.now ≡ new.committed)

-- these trees have the tables of such a store with their rows, and those of a desk without calls
abbrev pub HoldsBeside : State → Trees → List ℕ → Type 0
HoldsBeside old db owner =
    (schema : Schema) (c : Contents) → AllowsDesk schema owner → Holds (alone schema) old.now c → AreTablesOf (alone (with_all schema)) db (c ++ rows_of owner [])

-- own: the trees that a founding commits: those of a desk without calls, alone in a store that had no
-- table, or beside the tables that it had
abbrev pub Founded : State → List ℕ → Trees → Type 0
Founded old owner db = (old.now.schema ≡ no_schema → HoldsHistory db owner []) × HoldsBeside old db owner
