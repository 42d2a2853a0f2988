use Rattle.std.proofs.Common.{◌≡◌, None, arith, rules}
use Rattle.std.proofs.lemmas.Grind.{common_steps}
use Rattle.desk_history.specs.Proposals.{named_by}
use Rattle.desk_rules.proofs.FirstOwnLemmas.{decides_alike}
use Rattle.desk_rules.proofs.decisions.forcing.decide_own_first.Goals as goal

pub returns-in-AddPerson-clause-exact : goal.returns-in-AddPerson-clause-exact
returns-in-AddPerson-clause-exact c owner cs key legal first shown =
    let none : named_by c.args.command.now ≡ None = first_of (search rules, grind (arith, common_steps)) in
    decides_alike c.args.view.now c.args.caller.now c.args.command.now owner cs key none legal first shown c.decide_own.result (c.decide_own.ensures.exact owner cs key legal shown.call)
