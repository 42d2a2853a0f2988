-- Computed by the definitions.
use Rattle.std.specs.Prelude.{refl}
use Rattle.std.specs.Fmt.{digits}
use Rattle.hex.specs.Hex.{encode_with}
use Rattle.store_schema.specs.rows.WorkedFirst.{HoldsFirstDay}
use Rattle.store_schema.proofs.rows.laws.first_tables_are_rows.Goals as goal

day_computed : HoldsFirstDay
unfolding digits encode_with
day_computed = (refl, refl, refl, refl)

pub returns : goal.returns
returns c = day_computed
