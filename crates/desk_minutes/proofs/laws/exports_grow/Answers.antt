use Rattle.desk_minutes.proofs.GrowthLemmas.{dbx_read_grows, histories_grow, minutes_grow}
use Rattle.desk_minutes.proofs.laws.exports_grow.Goals as goal

pub returns-clause-history : goal.returns-clause-history
returns-clause-history c = histories_grow

pub returns-clause-minutes : goal.returns-clause-minutes
returns-clause-minutes c = minutes_grow

pub returns-clause-read : goal.returns-clause-read
returns-clause-read c = dbx_read_grows
