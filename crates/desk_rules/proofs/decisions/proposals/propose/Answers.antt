use Rattle.std.proofs.Common.{[], ◌∷◌}
use Rattle.desk_types.specs.Callers.{caller_name}
use Rattle.desk_types.specs.declared.reply.Reply.TheVariants as replies
use Rattle.desk_history.specs.declared.write.Write.TheVariants as writes
use Rattle.desk_rules.specs.DecisionSteps.{open_row}
use Rattle.desk_rules.proofs.AnswerLemmas.{proposes_only}
use Rattle.desk_rules.proofs.ProposalDecisions.{has_numbers, proposes}
use Rattle.desk_rules.proofs.decisions.proposals.propose.Goals as goal

pub returns-in-None-clause-exact : goal.returns-in-None-clause-exact
returns-in-None-clause-exact c command names owner cs key legal shown =
    has_numbers c.args.view.now c.args.caller.now command (record { kind = c.args.kind; entries = c.args.named }) names owner cs key legal shown c.in-None.ensures

pub returns-in-Some-clause-exact : goal.returns-in-Some-clause-exact
returns-in-Some-clause-exact c command names owner cs key legal shown =
    proposes c.args.view.now c.args.caller.now command (record { kind = c.args.kind; entries = c.args.named }) names owner cs key legal shown c.in-Some.number c.in-Some.ensures
    c.in_ok-so_far.so_far c.in_ok-so_far.ensures.ok c.propose_as.result c.propose_as.ensures

pub returns-in-Some-clause-only : goal.returns-in-Some-clause-only
returns-in-Some-clause-only c =
    proposes_only c.args.view.now c.propose_as.result c.args.kind c.args.named c.in_ok-so_far.so_far.names (replies.Proposed c.in-Some.number)
    (writes.Propose (open_row c.in-Some.number (caller_name c.args.caller.now) c.args.kind c.args.named) ∷ []) c.propose_as.ensures
