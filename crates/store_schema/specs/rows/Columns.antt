-- The columns of a row of a STRICT table (SQLite, "STRICT Tables").
use Rattle.std.specs.Prelude.{◌≡◌, ℕ, Bool, true, false, ◌&&◌, List, [], ◌∷◌, Option, Some, None}
use Rattle.std.specs.List.{AllByRecursion}
use Rattle.sqlite.specs.Kind.{Kind}
use Rattle.sqlite.specs.Kind.TheVariants as kinds
use Rattle.sqlite.specs.declared.types.Value.{Value}
use Rattle.sqlite.specs.declared.types.Value.TheVariants.{Null, Int, Text, Blob}
use Rattle.sqlite.specs.Order.{Row}
use Rattle.sqlite.specs.Table.{Table}
use Rattle.sqlite_schema.specs.declared.schema.Column.{Column}

-- the value is of the kind, and so not NULL; the desk has columns of integers, texts and blobs
abbrev pub is_of : Kind → Value → Bool
is_of kinds.Integer (Int n) = true
is_of kinds.Text (Text t) = true
is_of kinds.Blob (Blob b) = true
is_of kind value = false

-- there is a value for each column, of its kind
abbrev pub are_of : List Column → Row → Bool
are_of [] [] = true
are_of (c ∷ cs) (v ∷ vs) = is_of c.kind v && are_of cs vs
are_of columns row = false

-- the same for a row that begins with its row id, which is the first column's value
abbrev pub has_columns : Option ℕ → List Column → Row → Bool
has_columns None columns row = are_of columns row
has_columns (Some key) columns (id ∷ Null ∷ row) = are_of columns (id ∷ row)
has_columns (Some key) columns row = false

-- each row has a value for each column of the table, of its kind
abbrev pub HaveColumns : Table → List Row → Type 0
HaveColumns table rows = AllByRecursion (λ row. has_columns table.key table.columns row ≡ true) rows
