-- What the statements read, insert and sort by: the columns of a table, counted from 0, and the
-- parameters, counted from 0.
use Rattle.std.specs.Prelude.{ℕ, zero, suc, ◌+◌, List, [], ◌∷◌, ◌++◌, map, drop, Option, Some, None}
use Rattle.sqlite.specs.Collation.TheVariants.{Binary}
use Rattle.sqlite.specs.declared.types.Value.TheVariants.{Null}
use Rattle.sqlite.specs.Table.{Table}
use Rattle.sqlite.specs.Term.{Term, col, lit}
use Rattle.sqlite_schema.specs.declared.schema.Column.{Column}
use Rattle.sqlite_value.specs.declared.keys.Key.{Key}
use Rattle.sqlite_value.specs.Keys.{ascending}

-- In terms, col 0 is the parameters and col 1 a stored row: the row id, then the columns. A column
-- that is the row id is NULL at its own place.
abbrev pub column_at : Option ℕ → ℕ → Term
column_at None at = col 1 (at + 1)
column_at (Some _) zero = col 1 0
column_at (Some _) (suc at) = col 1 (at + 2)

-- the terms of these columns, of which the first stands at this place
abbrev pub columns_from : Option ℕ → ℕ → List Column → List Term
columns_from key at [] = []
columns_from key at (c ∷ cs) = column_at key at ∷ columns_from key (at + 1) cs

-- every column, in the table's order
abbrev pub columns_of : Table → List Term
columns_of table = columns_from table.key 0 table.columns

-- the names of the columns, as an answer heads them
abbrev pub names_of : Table → List (List ℕ)
names_of table = map (λ (c : Column). c.name) table.columns

-- ORDER BY the first columns, ascending
abbrev pub by_first : ℕ → Table → List (Term × Key)
by_first zero table = []
by_first (suc n) table = by_first n table ++ (column_at table.key n, ascending Binary) ∷ []

-- the columns after the first n
abbrev pub columns_after : ℕ → Table → List Term
columns_after n table = drop n (columns_of table)

-- what a row is made of where the value of each column is given: its row id, then its columns
abbrev pub stored_as : Option ℕ → List Term → List Term
stored_as None values = lit Null ∷ values
stored_as (Some _) [] = []
stored_as (Some _) (key ∷ values) = key ∷ lit Null ∷ values

-- a parameter for each of these columns, the first of them at this place
abbrev pub parameters_from : ℕ → List Column → List Term
parameters_from at [] = []
parameters_from at (c ∷ cs) = col 0 at ∷ parameters_from (at + 1) cs

-- VALUES (?1, ?2, ..), a parameter for each column
abbrev pub values_of : Table → List Term
values_of table = stored_as table.key (parameters_from 0 table.columns)
