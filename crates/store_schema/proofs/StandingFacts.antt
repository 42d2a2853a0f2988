-- The desk's tables where others come after: none of the fifteen has a foreign key, so each stands
-- as it does alone.
use Rattle.std.proofs.Common.{◌≡◌, ℕ, true, slice_get, Some, refl}
use Rattle.std.specs.List.{AllByRecursion}
use Rattle.sqlite.specs.Table.{Table}
use Rattle.store_sql.specs.Layouts.{Others, RefersToNone, beside, is_apart}
use Rattle.store_sql.specs.Meanings.{StandsAt}
use Rattle.store_sql.proofs.BesideLemmas.{stands_beside}
use Rattle.store_schema.specs.Tables.{desk_schema}

pub stands : (others : Others) → AllByRecursion (RefersToNone desk_schema.tables) others.tables → (at : ℕ) (table : Table) → slice_get desk_schema.tables at ≡ Some table
    → is_apart at table.tree desk_schema.tables ≡ true → StandsAt (beside desk_schema others) at table
stands others refer = stands_beside desk_schema others refer
    (refl, (refl, (refl, (refl, (refl, (refl, (refl, (refl, (refl, (refl, (refl, (refl, (refl, (refl, (refl, tt)))))))))))))))
