-- The queries that the statements compile to: over one table, with conditions, an order, or a
-- count.
use Rattle.std.specs.Prelude.{ℕ, pos, negsuc, List, [], ◌∷◌, map, take, length, Bool, false, Some, None}
use Rattle.std.specs.List.{list_all}
use Rattle.std.specs.declared.cmp.Ordering.{Ordering}
use Rattle.sqlite.specs.Cast.{cast_row}
use Rattle.sqlite.specs.Collation.TheVariants.{Binary}
use Rattle.sqlite.specs.declared.types.Value.TheVariants.{Null, Int}
use Rattle.sqlite.specs.Order.{Row}
use Rattle.sqlite.specs.Query.{Query, inner, end, key_cmp}
use Rattle.sqlite.specs.Table.{Table}
use Rattle.sqlite.specs.Term.{Term, col, lit, eval_all, holds}
use Rattle.sqlite_schema.specs.declared.program.Program.{Program}
use Rattle.sqlite_sql.specs.declared.aggregate.AggregateOp.TheVariants as op
use Rattle.sqlite_sql.specs.Group.{Aggregate, Grouping}
use Rattle.sqlite_value.specs.declared.keys.Key.{Key}

-- SELECT .. FROM the table of this tree WHERE .. ORDER BY ..
abbrev pub plain_query : ℕ → List Term → List Term → List (Term × Key) → Query
plain_query tree terms project order = record {
  from = inner tree end;
  filter = terms;
  group = None;
  project = project;
  distinct = false;
  collations = [];
  order = order;
  limit = lit (Int (negsuc 0));
  offset = lit (Int (pos 0));
}

-- count(*), the number of rows of a group
abbrev pub row_count : Aggregate
row_count = record { op = op.CountRows; distinct = false; collation = Binary; argument = lit Null }

-- all rows are one group, which is counted
abbrev pub one_group : Grouping
one_group = record { keys = []; collations = []; aggregates = row_count ∷ []; having = [] }

-- SELECT count(*) FROM the table of this tree WHERE ..
abbrev pub count_query : ℕ → List Term → Query
count_query tree terms = record {
  from = inner tree end;
  filter = terms;
  group = Some one_group;
  project = col 1 0 ∷ [];
  distinct = false;
  collations = [];
  order = [];
  limit = lit (Int (negsuc 0));
  offset = lit (Int (pos 0));
}

-- the answer of a count: one row, of one integer
abbrev pub number_row : ℕ → List Row
number_row n = (Int (pos n) ∷ []) ∷ []

-- the program that finds the rows of an UPDATE or a DELETE
abbrev pub finding : ℕ → List Term → List Term → Program
finding tree terms project = record { lets = []; body = plain_query tree terms project [] }

-- ---- one row, with the parameters, as the terms see them

-- all of the terms are true of the row
abbrev pub meets : List Term → Row → Row → Bool
meets terms params row = list_all (holds (params ∷ row ∷ [])) terms

-- the values of the terms, for this row
abbrev pub projected : List Term → Row → Row → Row
projected project params row = eval_all project (params ∷ row ∷ [])

-- the row after an UPDATE writes these columns, the first of them the row id
abbrev pub rewritten : Table → List Term → Row → Row → Row
rewritten table rest params row = cast_row table (projected rest params row)

-- ---- orders

-- the terms of ORDER BY
abbrev pub keys_of : List (Term × Key) → List Term
keys_of order = map (λ (k : Term × Key). k.0) order

-- two rows in the order of the keys, which are their first columns
abbrev pub by_keys : List (Term × Key) → Row → Row → Ordering
by_keys order a b = key_cmp 0 (map (λ (k : Term × Key). k.1) order) (take (length (keys_of order)) a) (take (length (keys_of order)) b)
