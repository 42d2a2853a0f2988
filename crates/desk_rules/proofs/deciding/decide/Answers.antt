use Rattle.desk_rules.proofs.CallLemmas.{by_second}
use Rattle.desk_history.specs.Called.{called}
use Rattle.desk_rules.proofs.deciding.decide.Goals as goal

pub returns-clause-exact : goal.returns-clause-exact
returns-clause-exact c owner cs legal shown =
    by_second c.args.view.now owner cs (called c.args.caller.now c.args.key.now c.args.command.now) c.decide_call.result c.decide_call.ensures.exact legal shown
