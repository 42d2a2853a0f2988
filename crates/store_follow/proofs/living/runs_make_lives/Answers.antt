use Rattle.store_follow.proofs.LivingLemmas.{runs_begin, runs_live_on, runs_may_stop, wrong_runs_live_on}
use Rattle.store_follow.proofs.living.runs_make_lives.Goals as goal

pub returns-clause-begin : goal.returns-clause-begin
returns-clause-begin g c = runs_begin g.S.Store c.args.old.now

pub returns-clause-on : goal.returns-clause-on
returns-clause-on g c = runs_live_on g.S.Store c.args.new.now

pub returns-clause-wrong : goal.returns-clause-wrong
returns-clause-wrong g c = wrong_runs_live_on g.S.Store c.args.old.now c.args.new.now

pub returns-clause-stop : goal.returns-clause-stop
returns-clause-stop g c = runs_may_stop g.S.Store c.args.new.now.conn
