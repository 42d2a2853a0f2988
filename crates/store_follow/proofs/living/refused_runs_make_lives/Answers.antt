use Rattle.store_follow.proofs.LivingLemmas.{runs_may_stop}
use Rattle.store_follow.proofs.living.refused_runs_make_lives.Goals as goal

pub returns : goal.returns
returns g c = runs_may_stop g.S.Store c.args.conn.now
