use Rattle.desk_rules.proofs.CallLemmas.{by_first}
use Rattle.desk_history.specs.Called.{called}
use Rattle.desk_rules.proofs.first.decide_first.Goals as goal

pub returns-clause-exact : goal.returns-clause-exact
returns-clause-exact c owner cs legal first shown =
    by_first c.args.view.now owner cs (called c.args.caller.now c.args.key.now c.args.command.now) c.decide_call.result c.decide_call.ensures.exact legal first shown
