-- Computed by the definitions.
use Rattle.std.specs.Prelude.{refl}
use Rattle.desk_exports.specs.Worked.DigestSearch.{TellsFound}
use Rattle.desk_exports.proofs.laws.found_is_written.Goals as goal

found_computed : TellsFound
found_computed = (refl, refl, refl, refl, refl, refl, refl, refl, refl, refl, refl)

pub returns : goal.returns
returns c = found_computed
