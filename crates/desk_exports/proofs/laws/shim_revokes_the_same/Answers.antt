use Rattle.desk_exports.proofs.ShimLemmas.{has_bodies, has_one, has_others}
use Rattle.desk_exports.proofs.laws.shim_revokes_the_same.Goals as goal

pub returns-clause-bodies : goal.returns-clause-bodies
returns-clause-bodies c = has_bodies

pub returns-clause-others : goal.returns-clause-others
returns-clause-others c = has_others

pub returns-clause-one : goal.returns-clause-one
returns-clause-one c = has_one
