-- The tables that a store has: those of one schema, alone or with others after them.
use Rattle.std.specs.Prelude.{◌≡◌, ℕ, zero, suc, ◌==◌, Bool, true, false, not, ◌&&◌, List, [], ◌∷◌, ◌++◌}
use Rattle.std.specs.List.{AllByRecursion}
use Rattle.sqlite.specs.Schema.{Schema}
use Rattle.sqlite.specs.Table.{Table}
use Rattle.sqlite_schema.specs.declared.schema.Index.{Index}
use Rattle.sqlite_schema.specs.declared.schema.Reference.{Reference}
use Rattle.sqlite_schema.specs.Names.{same_name}

-- no table has this tree
abbrev pub are_other : ℕ → List Table → Bool
are_other tree [] = true
are_other tree (t ∷ ts) = not (t.tree == tree) && are_other tree ts

-- only the table at this place has this tree
abbrev pub is_apart : ℕ → ℕ → List Table → Bool
is_apart at tree [] = true
is_apart zero tree (t ∷ ts) = are_other tree ts
is_apart (suc at) tree (t ∷ ts) = not (t.tree == tree) && is_apart at tree ts

-- tables and indexes that somebody made after those of a schema
pub record Others : Type 0 where
  pub tables : List Table
  pub indexes : List Index

-- nothing comes after the tables and indexes of a schema
abbrev pub no_others : Others
no_others = record { tables = []; indexes = [] }

-- The schema with these after its own. Nothing comes after its views, among which the kit also
-- lists triggers, and tables and indexes whose texts it doesn't understand.
abbrev pub beside : Schema → Others → Schema
beside schema others = record { tables = schema.tables ++ others.tables; indexes = schema.indexes ++ others.indexes; views = schema.views }

-- No foreign key of the table has one of these as its parent. A key names its parent, whatever the
-- case of ASCII letters (SQLite, "Foreign Key Support").
abbrev pub NamesNone : List Table → Table → Type 0
NamesNone tables other = AllByRecursion (λ (key : Reference). AllByRecursion (λ (t : Table). same_name t.name key.parent ≡ false) tables) other.references

-- nor is the table's tree one of theirs
pub record RefersToNone (tables : List Table) (other : Table) : Type 0 where
  pub tree : are_other other.tree tables ≡ true
  pub parents : NamesNone tables other

-- the tables and indexes that come first in a store, and whether others may follow
pub record Layout : Type 0 where
  pub schema : Schema
  pub leads : Bool

-- no others
abbrev pub alone : Schema → Layout
alone schema = record { schema = schema; leads = false }

-- any others that don't refer to these tables, also indexes of these tables
abbrev pub leading : Schema → Layout
leading schema = record { schema = schema; leads = true }

-- a store of this schema has the tables of the layout, and others only where they may follow
pub record Fits (layout : Layout) (schema : Schema) : Type 0 where
  pub others : Others
  pub is : schema ≡ beside layout.schema others
  pub none : layout.leads ≡ false → others ≡ no_others
  pub refer : AllByRecursion (RefersToNone layout.schema.tables) others.tables
