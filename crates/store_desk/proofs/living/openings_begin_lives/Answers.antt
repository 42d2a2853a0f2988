use Rattle.store_desk.proofs.LivingLemmas.{begins_living, lives_again, may_stop_living}
use Rattle.store_desk.proofs.living.openings_begin_lives.Goals as goal

pub returns-clause-first : goal.returns-clause-first
returns-clause-first g c = begins_living g.S.Store c.args.desk.now

pub returns-clause-next : goal.returns-clause-next
returns-clause-next g c = lives_again g.S.Store c.args.desk.now

pub returns-clause-rest : goal.returns-clause-rest
returns-clause-rest g c = may_stop_living g.S.Store c.args.desk.now
