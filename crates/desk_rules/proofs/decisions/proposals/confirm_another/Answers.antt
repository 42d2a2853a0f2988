use Rattle.std.proofs.Common.{rules, false, inl}
use Rattle.desk_rules.proofs.ForeseenRefusals.{closed_foreseen}
use Rattle.desk_rules.proofs.ProposalDecisions.{another_early, another_none, open_one}
use Rattle.desk_rules.proofs.decisions.proposals.confirm_another.Goals as goal

pub returns-in_default-clause-exact : goal.returns-in_default-clause-exact
returns-in_default-clause-exact c owner cs caller key shown =
    inl (another_none c.args.view.now caller c.args.number owner cs key shown (search rules))

pub returns-in-Some-confirm_by-clause-exact : goal.returns-in-Some-confirm_by-clause-exact
returns-in-Some-confirm_by-clause-exact c owner cs caller key shown =
    inl (another_early c.args.view.now caller c.args.number owner cs key shown c.in-Some.row.now (search rules) c.in-Some-confirm_by.refusal (search rules))

pub returns-in-Some-confirm_by-clause-only : goal.returns-in-Some-confirm_by-clause-only
returns-in-Some-confirm_by-clause-only c = closed_foreseen c.in-Some.row.now.state c.in-Some-confirm_by.refusal (search rules)

pub returns-clause-exact : goal.returns-clause-exact
returns-clause-exact c = c.put_into_force.ensures.exact (search rules) (open_one c.in-Some.row.now.state false (search rules))
