use Rattle.std.proofs.Common.{rules, refl}
use Rattle.std.specs.Prelude.{bytes_eq}
use Rattle.desk_types.specs.Callers.{caller_name}
use Rattle.desk_rules.proofs.AnswerLemmas.{early_only}
use Rattle.desk_rules.proofs.ForeseenRefusals.{answered_only}
use Rattle.desk_rules.proofs.ProposalDecisions.{confirms, confirms_none, open_one, refuses_confirm, refuses_early}
use Rattle.desk_rules.proofs.decisions.proposals.confirm.Goals as goal

pub returns-in_default-clause-exact : goal.returns-in_default-clause-exact
returns-in_default-clause-exact c owner cs key legal shown =
    confirms_none c.args.view.now c.args.caller.now c.args.number owner cs key shown (search rules)

pub returns-in-Some-confirm_by-clause-exact : goal.returns-in-Some-confirm_by-clause-exact
returns-in-Some-confirm_by-clause-exact c owner cs key legal shown =
    refuses_early c.args.view.now c.args.caller.now c.args.number owner cs key shown c.in-Some.row.now (search rules) c.in-Some-confirm_by.refusal (search rules)

pub returns-in-Some-confirm_by-clause-only : goal.returns-in-Some-confirm_by-clause-only
returns-in-Some-confirm_by-clause-only c =
    early_only c.in-Some.row.now.state (bytes_eq c.in-Some.row.now.officer (caller_name c.args.caller.now)) c.in-Some-confirm_by.refusal (search rules)

pub returns-in_err-enforced-clause-exact : goal.returns-in_err-enforced-clause-exact
returns-in_err-enforced-clause-exact c owner cs key legal shown =
    refuses_confirm c.args.view.now c.args.caller.now c.args.number owner cs key shown c.in-Some.row.now (search rules) (search rules) _
    (c.in_err-enforced.ensures.exact (search rules) (open_one c.in-Some.row.now.state (bytes_eq c.in-Some.row.now.officer (caller_name c.args.caller.now)) (search rules)) owner cs c.args.caller.now key shown) _ (search rules)

pub returns-in_err-enforced-clause-only : goal.returns-in_err-enforced-clause-only
returns-in_err-enforced-clause-only c = answered_only _ c.in_err-enforced.ensures.only _ (search rules)

pub returns-clause-exact : goal.returns-clause-exact
returns-clause-exact c owner cs key legal shown =
    confirms c.args.view.now c.args.caller.now c.args.number owner cs key shown c.in-Some.row.now (search rules) (search rules) c.in_ok-enforced.enforced
    (c.in_ok-enforced.ensures.exact (search rules) (open_one c.in-Some.row.now.state (bytes_eq c.in-Some.row.now.officer (caller_name c.args.caller.now)) (search rules)) owner cs c.args.caller.now key shown) _ refl
