-- Computed by the definitions.
use Rattle.std.specs.Prelude.{refl}
use Rattle.desk_exports.specs.Worked.Waiting.{TellsChanges, TellsParts, TellsWaiting}
use Rattle.desk_exports.proofs.laws.waiting_is_written.Goals as goal

waits_computed : TellsWaiting
waits_computed = (refl, refl, refl, refl, refl, refl, refl, refl, refl)

pub returns-clause-waits : goal.returns-clause-waits
returns-clause-waits c = waits_computed

parts_computed : TellsParts
parts_computed = (refl, refl, refl, refl, refl, refl, refl)

pub returns-clause-parts : goal.returns-clause-parts
returns-clause-parts c = parts_computed

changes_computed : TellsChanges
changes_computed = (refl, refl, refl, refl, refl, refl, refl, refl)

pub returns-clause-changes : goal.returns-clause-changes
returns-clause-changes c = changes_computed
