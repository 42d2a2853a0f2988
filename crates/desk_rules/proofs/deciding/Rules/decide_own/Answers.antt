use Rattle.desk_rules.proofs.CallLemmas.{chosen_first, chosen_second}
use Rattle.desk_rules.proofs.deciding.Rules.decide_own.Goals as goal

pub returns-in-First-clause-exact : goal.returns-in-First-clause-exact
returns-in-First-clause-exact c = rw (← c.call.view_is)
    (chosen_first c.args.view.now c.call.inside.caller.now c.call.inside.key.now c.call.inside.command.now c.decide_own_first.result c.args.self c.in-First.is c.decide_own_first.ensures.exact)

pub returns-in-Second-clause-exact : goal.returns-in-Second-clause-exact
returns-in-Second-clause-exact c = rw (← c.call.view_is)
    (chosen_second c.args.view.now c.call.inside.caller.now c.call.inside.key.now c.call.inside.command.now c.decide_own.result c.args.self c.in-Second.is c.decide_own.ensures.exact)
