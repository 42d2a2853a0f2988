use Rattle.std.proofs.Common.{rules}
use Rattle.desk_rules.specs.Ruled.{rules_of}
use Rattle.desk_rules.proofs.RulingLemmas.{joins, refuses_own}
use Rattle.desk_rules.proofs.deciding.Rules.decide_call.Goals as goal

pub returns-in_err-own-clause-exact : goal.returns-in_err-own-clause-exact
returns-in_err-own-clause-exact c owner cs legal shown =
    refuses_own (rules_of c.args.self) c.args.view.now owner cs c.args.call.now shown (search rules) (search rules) (search rules)
    _ (c.in_err-own.ensures.exact owner cs legal shown) _ (search rules)

pub returns-clause-exact : goal.returns-clause-exact
returns-clause-exact c owner cs legal shown =
    joins (rules_of c.args.self) c.args.view.now owner cs c.args.call.now shown (search rules) (search rules) (search rules) c.in_ok-own.own
    (c.in_ok-own.ensures.exact owner cs legal shown) _ (search rules) c.join.result c.join.ensures
