-- The meaning of a text under a schema, and in a layout: under each schema that fits it. For a known
-- schema and text each is shown by computing, whatever comes after the schema's tables.
use Rattle.std.specs.Prelude.{◌≡◌, ℕ, ◌/◌, List, [], ◌∷◌, ◌++◌, length, true, false, slice_get, Option, Some, None, Ok, ⊤}
use Rattle.sqlite.proofs.Callers.{IsPlain, command_of, statement_of}
use Rattle.sqlite.specs.Change.{created}
use Rattle.sqlite.specs.Command.TheVariants.{CreateTable, Delete, Insert, Select, Update}
use Rattle.sqlite.specs.Compile.{table_defined_by}
use Rattle.sqlite.specs.declared.types.Value.{Value}
use Rattle.sqlite.specs.declared.types.Value.TheVariants.{Null}
use Rattle.sqlite.specs.Does.{lacks_sequence}
use Rattle.sqlite.specs.Listing.{understood, reads_listing}
use Rattle.sqlite.specs.Order.{Row}
use Rattle.sqlite.specs.Schema.{Schema}
use Rattle.sqlite.specs.Source.TheVariants.{Values}
use Rattle.sqlite.specs.Table.{Table}
use Rattle.sqlite.specs.Term.{Term, col}
use Rattle.sqlite_rules.specs.Action.{works}
use Rattle.sqlite_schema.specs.declared.schema.Keys.TheVariants.{Enforced}
use Rattle.sqlite_value.specs.declared.keys.Key.{Key}
use Rattle.store_sql.specs.Contents.{seen}
use Rattle.store_sql.specs.Layouts.{Fits, Layout, is_apart}
use Rattle.store_sql.specs.Queries.{plain_query, count_query, finding, meets, projected, rewritten, keys_of}

-- the table is at this place, no other has its tree, and no trigger or foreign key of another acts
-- on it
pub record StandsAt (schema : Schema) (at : ℕ) (table : Table) : Type 0 where
  pub place : slice_get schema.tables at ≡ Some table
  pub apart : is_apart at table.tree schema.tables ≡ true
  pub quiet : (olds news : List Row) → works schema Enforced 0 table.tree olds news ≡ []

-- INSERT: one row of these terms, the first the row id
pub record InsertsIn (schema : Schema) (at : ℕ) (table : Table) (text : List ℕ) (terms : List Term) : Type 0 where
  pub stands : StandsAt schema at table
  pub uncounted : table.is_counted ≡ false
  pub unstamped : table.stamps.terms ≡ []
  pub one : length terms / length terms ≡ 1
  pub means : command_of (understood schema text) ≡ Insert at (Values terms (length terms))
  pub plain : IsPlain (understood schema text)

-- a row id that doesn't count isn't read
abbrev pub OverlooksRowid : {Y : Type 0} → Option ℕ → (Row → Y) → Type 0
OverlooksRowid (Some _) f = ⊤
OverlooksRowid None f = (id : Value) (row : Row) → f (id ∷ row) ≡ f (Null ∷ row)

-- UPDATE: in the rows that satisfy the terms, these columns, the first the row id
pub record UpdatesIn (schema : Schema) (at : ℕ) (table : Table) (text : List ℕ) (terms rest : List Term) : Type 0 where
  pub stands : StandsAt schema at table
  pub means : command_of (understood schema text) ≡ Update at (finding table.tree terms (col 1 0 ∷ rest))
  pub plain : IsPlain (understood schema text)
  pub overlooks : (params : Row) → OverlooksRowid table.key (meets terms params)
  pub passes_over : (params : Row) → OverlooksRowid table.key (λ r. seen table (rewritten table rest params r))

-- DELETE: the rows that satisfy the terms
pub record DeletesIn (schema : Schema) (at : ℕ) (table : Table) (text : List ℕ) (terms : List Term) : Type 0 where
  pub stands : StandsAt schema at table
  pub means : command_of (understood schema text) ≡ Delete at (finding table.tree terms (col 1 0 ∷ []))
  pub plain : IsPlain (understood schema text)
  pub overlooks : (params : Row) → OverlooksRowid table.key (meets terms params)

-- SELECT: of the rows that satisfy the terms, the columns of ORDER BY and then these others, in
-- that order of rows
pub record SelectsIn (schema : Schema) (at : ℕ) (table : Table) (text : List ℕ) (terms : List Term) (order : List (Term × Key)) (rest : List Term) (names : List (List ℕ)) : Type 0 where
  pub place : slice_get schema.tables at ≡ Some table
  pub means : command_of (understood schema text) ≡ Select (record { lets = []; body = plain_query table.tree terms (keys_of order ++ rest) order }) names
  pub unlisted : reads_listing schema text ≡ false
  pub plain : IsPlain (understood schema text)
  pub overlooks : (params : Row) → OverlooksRowid table.key (meets terms params)
  pub passes_over : (params : Row) → OverlooksRowid table.key (projected (keys_of order ++ rest) params)

-- SELECT count(*): the rows that satisfy the terms
pub record CountsIn (schema : Schema) (at : ℕ) (table : Table) (text : List ℕ) (terms : List Term) (names : List (List ℕ)) : Type 0 where
  pub place : slice_get schema.tables at ≡ Some table
  pub means : command_of (understood schema text) ≡ Select (record { lets = []; body = count_query table.tree terms }) names
  pub unlisted : reads_listing schema text ≡ false
  pub plain : IsPlain (understood schema text)
  pub overlooks : (params : Row) → OverlooksRowid table.key (meets terms params)

-- ---- the meanings in a layout

-- INSERT, under each schema that fits the layout
abbrev pub InsertsRow : Layout → ℕ → Table → List ℕ → List Term → Type 0
InsertsRow layout at table text terms = (schema : Schema) → Fits layout schema → InsertsIn schema at table text terms

-- UPDATE, under each schema that fits the layout
abbrev pub UpdatesRows : Layout → ℕ → Table → List ℕ → List Term → List Term → Type 0
UpdatesRows layout at table text terms rest = (schema : Schema) → Fits layout schema → UpdatesIn schema at table text terms rest

-- DELETE, under each schema that fits the layout
abbrev pub DeletesRows : Layout → ℕ → Table → List ℕ → List Term → Type 0
DeletesRows layout at table text terms = (schema : Schema) → Fits layout schema → DeletesIn schema at table text terms

-- SELECT, under each schema that fits the layout
abbrev pub SelectsRows : Layout → ℕ → Table → List ℕ → List Term → List (Term × Key) → List Term → List (List ℕ) → Type 0
SelectsRows layout at table text terms order rest names = (schema : Schema) → Fits layout schema → SelectsIn schema at table text terms order rest names

-- SELECT count(*), under each schema that fits the layout
abbrev pub CountsRows : Layout → ℕ → Table → List ℕ → List Term → List (List ℕ) → Type 0
CountsRows layout at table text terms names = (schema : Schema) → Fits layout schema → CountsIn schema at table text terms names

-- the text has no RETURNING, and doesn't read the time
abbrev pub IsPlainIn : Layout → List ℕ → Type 0
IsPlainIn layout text = (schema : Schema) → Fits layout schema → IsPlain (understood schema text)

-- ---- making tables, in a store without others

-- CREATE TABLE: this table
pub record MakesTable (schema : Schema) (table : Table) (text : List ℕ) : Type 0 where
  pub defined : table_defined_by text ≡ Ok table
  pub means : command_of (understood schema text) ≡ CreateTable
  pub whole : statement_of text (understood schema text) ≡ text
  pub plain : IsPlain (understood schema text)
  pub complete : lacks_sequence (created schema table) ≡ false

-- the schema after these tables were made
abbrev pub schema_after : Schema → List Table → Schema
schema_after schema [] = schema
schema_after schema (t ∷ ts) = schema_after (created schema t) ts

-- each of the texts makes its table, after the tables before it
abbrev pub MakeTables : Schema → List Table → List (List ℕ) → Type 0
MakeTables schema [] [] = ⊤
MakeTables schema [] (x ∷ xs) = ⊥
MakeTables schema (t ∷ ts) [] = ⊥
MakeTables schema (t ∷ ts) (x ∷ xs) = MakesTable schema t x × MakeTables (created schema t) ts xs
