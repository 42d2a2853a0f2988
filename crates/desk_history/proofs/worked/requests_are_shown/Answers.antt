-- Computed by the definitions.
use Rattle.std.specs.Prelude.{refl}
use Rattle.desk_history.specs.Worked.Showing.{TellsAll, TellsRequests}
use Rattle.desk_history.proofs.worked.requests_are_shown.Goals as goal

each_computed : TellsRequests
each_computed = (refl, refl, refl, refl, refl, refl, refl, refl)

pub returns-clause-each : goal.returns-clause-each
returns-clause-each c = each_computed

all_computed : TellsAll
all_computed = (refl, refl, refl, refl, refl)

pub returns-clause-all : goal.returns-clause-all
returns-clause-all c = all_computed
