-- Reads inside a transaction, and the tables that the store holds.
use Rattle.std.specs.Prelude.{◌≡◌, ◌<◌, ℕ, Bool, List, [], ◌∷◌, map, Option, Some, None, filter}
use Rattle.std.specs.List.Sorted.{IsPermutation, IsSorted}
use Rattle.sqlite.specs.Order.{Row}
use Rattle.sqlite.specs.State.{State}
use Rattle.sqlite.specs.Table.{Table}
use Rattle.desk_types.specs.declared.kind.ListedKind.{ListedKind}
use Rattle.desk_types.specs.declared.kind.ListedKind.TheVariants as kinds
use Rattle.desk_history.specs.Tables.{Tables}
use Rattle.store_schema.specs.rows.Contents.{contents}
use Rattle.store_sql.specs.Effects.{Counts, Selects}
use Rattle.store_sql.specs.Queries.{by_keys}
use Rattle.store_sql.specs.States.{Changes, Sees}
use Rattle.store_schema.specs.Columns.{by_first}
use Rattle.store_schema.specs.Tables.{desk_layout}

-- the values are those of the answer's rows
pub record AreRead {T : Type 0} (shown : T → Row) (answer : List Row) (values : List T) : Type 0 where
  pub rows : answer ≡ map shown values
  pub only : (others : List T) → answer ≡ map shown others → values ≡ others

-- the answer of a query, as values
pub record Finds {T : Type 0} (shown : T → Row) (text : List ℕ) (params : Row) (values : List T) (old new : State) : Type 0 where
  pub answer : List Row
  pub selects : Selects text params old new answer
  pub read : AreRead shown answer values

-- Nothing changes, and this holds of any tables that the store holds.
pub record ReadsTables (told : Tables → Type 0) (old new : State) : Type 0 where
  pub kept : Changes desk_layout contents old new (λ t. t)
  pub tells : (t : Tables) → Sees desk_layout old (contents t) → told t

-- no value, or one
abbrev pub listed : {T : Type 0} → Option T → List T
listed None = []
listed (Some x) = x ∷ []

-- the revoked digests of a kind: of images, or of certificates
abbrev pub revoked_in : ListedKind → Tables → List (List ℕ)
revoked_in kinds.Digest t = t.revoked_digests
revoked_in kinds.Certificate t = t.revoked_certificates

-- these are the rows of the table that satisfy the condition, all and only those, in the order of
-- its first columns
pub record AreFound {T : Type 0} (shown : T → Row) (table : Table) (ordered : ℕ) (is_asked : T → Bool) (rows : List T) (values : List T) : Type 0 where
  pub all : IsPermutation (filter is_asked rows) values
  pub sorted : IsSorted (λ x y. by_keys (by_first ordered table) (shown x) (shown y)) values

-- the result of a count, if it is below the greatest integer of SQL, at which counts stop
pub record IsCounted (text : List ℕ) (params : Row) (n : ℕ) (old new : State) : Type 0 where
  pub counts : Counts text params old new n
  pub below : n < 9223372036854775807
