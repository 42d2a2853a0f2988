use Rattle.std.proofs.Common.{◌+◌, ◌∙◌, ap}
use Rattle.desk_rules.proofs.AnswerLemmas.{submits_only}
use Rattle.desk_rules.proofs.SubmissionLemmas.{count_seen, has_numbers, submits}
use Rattle.desk_rules.proofs.decisions.submit_next.Goals as goal

pub returns-in-None-clause-exact : goal.returns-in-None-clause-exact
returns-in-None-clause-exact c owner cs key legal shown = has_numbers c.args.view.now c.args.caller.now c.args.submission.now owner cs key legal shown c.in-None.ensures

pub returns-in-Some-clause-exact : goal.returns-in-Some-clause-exact
returns-in-Some-clause-exact c owner cs key legal shown =
    submits c.args.view.now c.args.caller.now c.args.submission.now owner cs key legal shown c.in-Some.number
    (c.in-Some.ensures ∙ ap (λ n. n + 1) (count_seen c.args.view.now c.args.caller.now c.args.submission.now owner cs key shown)) c.submit.result c.submit.ensures

pub returns-in-Some-clause-only : goal.returns-in-Some-clause-only
returns-in-Some-clause-only c = submits_only c.args.view.now c.submit.result c.in-Some.number c.args.caller.now c.args.submission.now c.submit.ensures
