-- The contents of a store's tables: the rows of each, in any order.
use Rattle.std.specs.Prelude.{ℕ, zero, suc, IsTrue, List, [], ◌∷◌, map, drop, Option, Some, None}
use Rattle.std.specs.List.{AllByRecursion, AllZip}
use Rattle.std.specs.List.Sorted.{IsPermutation}
use Rattle.sqlite.specs.declared.types.Value.TheVariants.{Null}
use Rattle.sqlite.specs.Effect.{Database}
use Rattle.sqlite.specs.Order.{Row}
use Rattle.sqlite.specs.Schema.{Schema}
use Rattle.sqlite.specs.Table.{Table}
use Rattle.sqlite.specs.Tree.{Trees, IsTable, rowid}
use Rattle.sqlite_catalog.specs.Listing.{IsSound}
use Rattle.sqlite_trees.specs.View.{is_int}
use Rattle.store_sql.specs.Layouts.{Fits, Layout}

-- A stored row begins with its row id. If the table has an INTEGER PRIMARY KEY, which is that
-- number, the whole row counts; in other tables, only the columns after the row id (SQLite, "Rowid
-- Tables").
abbrev pub by_key : Option ℕ → Row → Row
by_key (Some _) row = row
by_key None row = drop 1 row

-- the columns of a stored row of this table that count
abbrev pub seen : Table → Row → Row
seen table row = by_key table.key row

-- a stored row from the columns that count: a row id that doesn't count is written as NULL
abbrev pub with_rowid_by_key : Option ℕ → Row → Row
with_rowid_by_key (Some _) row = row
with_rowid_by_key None row = Null ∷ row

-- a stored row of this table from the columns that count
abbrev pub whole : Table → Row → Row
whole table row = with_rowid_by_key table.key row

-- the rows of each table of a schema, by the columns that count
abbrev pub Contents : Type 0
Contents = List (List Row)

-- The row ids are integers and ascend, so none repeats. UPDATE and DELETE find rows by them.
abbrev pub IsKeyed : List Row → Type 0
IsKeyed rows = IsTable rows × AllByRecursion (λ (r : Row). IsTrue (is_int (rowid r))) rows

-- the table's tree holds these rows and no other
pub record IsIn (db : Trees) (table : Table) (rows : List Row) : Type 0 where
  pub same : IsPermutation rows (map (seen table) (db table.tree))
  pub keyed : IsKeyed (db table.tree)

-- for each table the trees hold these rows
abbrev pub HoldRows : Trees → List Table → Contents → Type 0
HoldRows db tables contents = AllZip (IsIn db) tables contents

-- The trees are a database of this schema: their catalog lists its tables and no others, and the
-- rows obey it. Opening them finds the schema in the catalog.
unfoldable pub IsDatabaseIn : Schema → Trees → Type 0
IsDatabaseIn schema db = IsSound schema db

-- the trees are a database of a schema that fits the layout
pub record IsDatabaseOf (layout : Layout) (db : Trees) : Type 0 where
  pub schema : Schema
  pub fits : Fits layout schema
  pub sound : IsDatabaseIn schema db

-- the trees also hold these rows in the tables of the layout; nothing is said of rows elsewhere
pub record AreTablesOf (layout : Layout) (db : Trees) (contents : Contents) : Type 0 where
  pub sound : IsDatabaseOf layout db
  pub rows : HoldRows db layout.schema.tables contents

-- the database has the tables of the layout with these rows, and others only where they may follow
pub record Holds (layout : Layout) (db : Database) (contents : Contents) : Type 0 where
  pub fits : Fits layout db.schema
  pub sound : IsDatabaseIn db.schema db.trees
  pub rows : HoldRows db.trees layout.schema.tables contents

-- the contents, with the rows of the table at this place changed
abbrev pub change_at : ℕ → (List Row → List Row) → Contents → Contents
change_at at change [] = []
change_at zero change (rows ∷ contents) = change rows ∷ contents
change_at (suc at) change (rows ∷ contents) = rows ∷ change_at at change contents

-- every table without a row
abbrev pub no_rows : List Table → Contents
no_rows [] = []
no_rows (t ∷ ts) = [] ∷ no_rows ts
