-- Computed by the definitions.
use Rattle.std.specs.Prelude.{refl}
use Rattle.std.specs.Fmt.{digits}
use Rattle.hex.specs.Hex.{encode_with}
use Rattle.desk_exports.specs.Worked.{ExportsDb, ExportsImpact, ExportsImport, ExportsInOrder, ExportsLevels, ExportsMinutes, ExportsNothing, ExportsProposals, ExportsReports, ExportsShim}
use Rattle.desk_exports.proofs.laws.exports_are_written.Goals as goal

nothing_computed : ExportsNothing
unfolding digits encode_with
nothing_computed = (refl, refl, refl, refl, refl)

pub returns-clause-nothing : goal.returns-clause-nothing
returns-clause-nothing c = nothing_computed

db_computed : ExportsDb
unfolding digits encode_with
db_computed = refl

pub returns-clause-db : goal.returns-clause-db
returns-clause-db c = db_computed

import_computed : ExportsImport
unfolding digits encode_with
import_computed = refl

pub returns-clause-import : goal.returns-clause-import
returns-clause-import c = import_computed

shim_computed : ExportsShim
unfolding digits encode_with
shim_computed = (refl, refl)

pub returns-clause-shim : goal.returns-clause-shim
returns-clause-shim c = shim_computed

proposals_computed : ExportsProposals
unfolding digits encode_with
proposals_computed = (refl, refl, refl, refl, refl)

pub returns-clause-proposals : goal.returns-clause-proposals
returns-clause-proposals c = proposals_computed

impact_computed : ExportsImpact
unfolding digits encode_with
impact_computed = (refl, refl)

pub returns-clause-impact : goal.returns-clause-impact
returns-clause-impact c = impact_computed

order_computed : ExportsInOrder
unfolding digits encode_with
order_computed = refl

pub returns-clause-order : goal.returns-clause-order
returns-clause-order c = order_computed

levels_computed : ExportsLevels
unfolding digits encode_with
levels_computed = (refl, refl)

pub returns-clause-levels : goal.returns-clause-levels
returns-clause-levels c = levels_computed

minutes_computed : ExportsMinutes
unfolding digits encode_with
minutes_computed = refl

pub returns-clause-minutes : goal.returns-clause-minutes
returns-clause-minutes c = minutes_computed

reports_computed : ExportsReports
unfolding digits encode_with
reports_computed = (refl, refl)

pub returns-clause-reports : goal.returns-clause-reports
returns-clause-reports c = reports_computed
