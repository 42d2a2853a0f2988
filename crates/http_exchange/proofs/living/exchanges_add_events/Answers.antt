use Rattle.http_exchange.proofs.LivingLemmas.{exchanges_add_events, failed_add_none}
use Rattle.http_exchange.proofs.living.exchanges_add_events.Goals as goal

pub returns-clause-one : goal.returns-clause-one
returns-clause-one g c =
    exchanges_add_events g.D.AnswersCalls.shows g.D.AnswersCalls.clean g.D.AnswersCalls.failed g.D.AnswersCalls.leaves c.args.old.now c.args.new.now

pub returns-clause-none : goal.returns-clause-none
returns-clause-none g c =
    failed_add_none g.D.AnswersCalls.shows g.D.AnswersCalls.clean g.D.AnswersCalls.failed g.D.AnswersCalls.leaves c.args.old.now c.args.new.now
