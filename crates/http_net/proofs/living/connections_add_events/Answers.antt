use Rattle.http_net.proofs.LivingLemmas.{runs_add_events, turns_add_events}
use Rattle.http_net.proofs.living.connections_add_events.Goals as goal

pub returns-clause-run : goal.returns-clause-run
returns-clause-run g c =
    runs_add_events g.D.AnswersCalls.shows g.D.AnswersCalls.clean g.D.AnswersCalls.failed g.D.AnswersCalls.leaves c.args.old.now c.args.new.now

pub returns-clause-turns : goal.returns-clause-turns
returns-clause-turns g c =
    turns_add_events g.D.AnswersCalls.shows g.D.AnswersCalls.clean g.D.AnswersCalls.failed g.D.AnswersCalls.leaves c.args.old.now c.args.new.now
