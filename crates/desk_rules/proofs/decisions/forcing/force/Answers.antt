use Rattle.std.proofs.Common.{rules}
use Rattle.desk_rules.proofs.ForcingLemmas.{not_now, puts_now}
use Rattle.desk_rules.proofs.decisions.forcing.force.Goals as goal

pub returns-clause-exact : goal.returns-clause-exact
returns-clause-exact c caller command names owner cs key legal first shown =
    puts_now c.args.view.now caller command (record { kind = c.args.kind; entries = c.args.named.now }) names owner cs key legal shown c.in_ok-enforced.enforced c.in_ok-enforced.ensures.ok _ (search rules)

pub returns-in_err-enforced-clause-exact : goal.returns-in_err-enforced-clause-exact
returns-in_err-enforced-clause-exact c caller command names owner cs key legal first shown =
    not_now c.args.view.now caller command (record { kind = c.args.kind; entries = c.args.named.now }) names owner cs key legal shown _ c.in_err-enforced.ensures.err _ (search rules)
