use Rattle.std.proofs.Common.{rules}
use Rattle.desk_rules.proofs.ProposalDecisions.{not_in, puts_in}
use Rattle.desk_rules.proofs.decisions.proposals.put_into_force.Goals as goal

pub returns-in_err-entries-clause-exact : goal.returns-in_err-entries-clause-exact
returns-in_err-entries-clause-exact c found is_open =
    not_in c.args.view.now c.args.number c.args.row.now found is_open _ c.in_err-entries.ensures.err _ (search rules)

pub returns-clause-exact : goal.returns-clause-exact
returns-clause-exact c found is_open =
    puts_in c.args.view.now c.args.number c.args.row.now found is_open c.in_ok-entries.entries c.in_ok-entries.ensures.ok c.enforce.result c.enforce.ensures.counts c.enforce.ensures.writes c.enforce.ensures.err
