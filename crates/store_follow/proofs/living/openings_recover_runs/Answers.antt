use Rattle.store_follow.proofs.LivingLemmas.{recovers_runs}
use Rattle.store_follow.proofs.living.openings_recover_runs.Goals as goal

pub returns : goal.returns
returns g c = recovers_runs g.S.Store c.args.conn.now c.args.desk.now
