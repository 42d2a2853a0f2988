-- The columns that the statements test and set, by their names.
use Rattle.std.specs.Prelude.{ℕ, zero, suc, ◌+◌, ◌==◌, List, [], ◌∷◌, Option, Some, None, if◌then◌else◌}
use Rattle.std.specs.Str.{bytes_eq}
use Rattle.sqlite.specs.Collation.TheVariants.{Binary}
use Rattle.sqlite.specs.declared.types.Value.TheVariants.{Null}
use Rattle.sqlite.specs.Table.{Table}
use Rattle.sqlite.specs.Term.{Term, col, lit, op2}
use Rattle.sqlite_schema.specs.declared.schema.Column.{Column}
use Rattle.sqlite_sql.specs.declared.ops.BinaryOp.TheVariants.{Compare}
use Rattle.sqlite_sql.specs.declared.ops.CompareOp.TheVariants.{Eq}
use Rattle.store_schema.specs.Columns.{column_at}

-- the place of the first column of this name, counted from 0; if none has it, the place after the
-- last
abbrev pub place_of : List ℕ → List Column → ℕ
place_of name [] = zero
place_of name (c ∷ cs) = if bytes_eq c.name name then zero else suc (place_of name cs)

-- the column of this name
abbrev pub column_named : Table → List ℕ → Term
column_named table name = column_at table.key (place_of name table.columns)

-- WHERE column = ?parameter
abbrev pub equals : Table → List ℕ → ℕ → Term
equals table name parameter = op2 (Compare Eq Binary) (column_named table name) (col 0 parameter)

-- these columns as they are, the first of them at this place, but for the one at the place that is
-- set: it becomes the parameter
abbrev set_from : Option ℕ → ℕ → ℕ → ℕ → List Column → List Term
set_from key set parameter at [] = []
set_from key set parameter at (c ∷ cs) = (if at == set then col 0 parameter else column_at key at) ∷ set_from key set parameter (at + 1) cs

-- what UPDATE writes into a row whose columns become these: the row id first, as the key says or as
-- it was
abbrev with_row_id : Option ℕ → List Term → List Term
with_row_id None values = col 1 0 ∷ values
with_row_id (Some _) [] = []
with_row_id (Some _) (key ∷ values) = key ∷ lit Null ∷ values

-- SET column = ?parameter: the row id and every column of the row that an UPDATE writes
abbrev pub set_to : Table → List ℕ → ℕ → List Term
set_to table name parameter = with_row_id table.key (set_from table.key (place_of name table.columns) parameter 0 table.columns)
