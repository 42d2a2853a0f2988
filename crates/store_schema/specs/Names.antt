-- Whether the names of the desk's tables are free in a store.
use Rattle.std.specs.Prelude.{ℕ, Bool, ◌||◌, List, is_some}
use Rattle.std.specs.List.{list_any}
use Rattle.sqlite.specs.Schema.{Schema}
use Rattle.sqlite_schema.specs.Names.{index_named, table_named, view_named}
use Rattle.store_schema.specs.Tables.{added_tables, desk_tables}

-- a table, an index or a view has the name, whatever the case of ASCII letters (SQLite, "CREATE
-- TABLE")
abbrev pub is_taken : Schema → List ℕ → Bool
is_taken schema name = is_some (table_named schema name) || is_some (index_named schema name) || is_some (view_named schema name)

-- one of the fifteen names is taken
abbrev pub takes_a_desk_name : Schema → Bool
takes_a_desk_name schema = list_any (λ t. is_taken schema t.name) desk_tables

-- one of the three names that version 2 adds is taken
abbrev pub takes_an_added_name : Schema → Bool
takes_an_added_name schema = list_any (λ t. is_taken schema t.name) added_tables
