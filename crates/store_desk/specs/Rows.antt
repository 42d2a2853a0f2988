-- The row of the table `desk`, as a SELECT shows it.
use Rattle.std.specs.Prelude.{ℤ, List, []}
use Rattle.sqlite.specs.Order.{Row}
use Rattle.store_sql.specs.Effects.{IsSelected}
use Rattle.store_schema.specs.Columns.{by_first, columns_after}
use Rattle.store_schema.specs.Tables.{desk}
use Rattle.store_reads.specs.Own.{ReadsAs, ReadsBy}
use Rattle.store_reads.specs.declared.desk_row.OwnRow.{OwnRow}

-- a SELECT of whole rows of the table `desk`, which has these rows, gives an answer of which this
-- holds
abbrev pub AreSelected : List Row → (List Row → Type 0) → Type 0
AreSelected rows told = (answer : List Row) × IsSelected desk [] (by_first 1 desk) (columns_after 1 desk) [] rows answer × told answer

-- it shows them as those of a desk of this version
abbrev pub AreOf : List Row → ℤ → Type 0
AreOf rows version = AreSelected rows (λ answer. ReadsAs answer version)

-- it shows them as those of a desk of this version, owner and stamp
abbrev pub AreBy : List Row → OwnRow → Type 0
AreBy rows own = AreSelected rows (λ answer. ReadsBy answer own)

-- it shows them as those of no desk
abbrev pub AreOfNone : List Row → Type 0
AreOfNone rows = (version : ℤ) → AreOf rows version → ⊥
