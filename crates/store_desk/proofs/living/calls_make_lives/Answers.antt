use Rattle.store_desk.proofs.LivingLemmas.{goes_on_living, may_end_living}
use Rattle.store_desk.proofs.living.calls_make_lives.Goals as goal

pub returns-clause-on : goal.returns-clause-on
returns-clause-on g c = goes_on_living g.S.Store c.args.old.now c.args.new.now

pub returns-clause-end : goal.returns-clause-end
returns-clause-end g c = may_end_living g.S.Store c.args.old.now c.args.new.now
