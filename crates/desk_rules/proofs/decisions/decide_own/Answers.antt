use Rattle.std.proofs.Common.{[], ◌∷◌, subst, sym}
use Rattle.desk_types.specs.declared.command.Command.{Command}
use Rattle.desk_rules.specs.DecisionSteps.{DecidesOwn}
use Rattle.desk_types.specs.declared.kind.ListedKind.TheVariants as kinds
use Rattle.desk_types.specs.declared.proposal.ProposalState.TheVariants as states
use Rattle.desk_types.specs.declared.reply.Reply.TheVariants as replies
use Rattle.desk_history.specs.declared.write.Write.TheVariants as writes
use Rattle.desk_rules.proofs.AnswerLemmas.{adds_only, drops_only, explains_only, lists_only, returns_only, reviews_only, unlists_only, withdraws_only}
use Rattle.desk_rules.proofs.DecisionLemmas.{adds, lists_certificate, lists_digest, unlists}
use Rattle.desk_rules.proofs.ProposalDecisions.{drops, explains}
use Rattle.desk_rules.proofs.RequestDecisions.{returns_file, reviews, withdraws_request}
use Rattle.desk_rules.proofs.decisions.decide_own.Goals as goal

pub returns-in-AddPerson-clause-exact : goal.returns-in-AddPerson-clause-exact
returns-in-AddPerson-clause-exact c = subst (λ (command : Command). DecidesOwn c.args.view.now c.args.caller.now command c.add_person.result) (sym c.in-AddPerson.is) (adds c.args.view.now c.args.caller.now c.in-AddPerson.person c.add_person.result c.add_person.ensures)

pub returns-in-Review-clause-exact : goal.returns-in-Review-clause-exact
returns-in-Review-clause-exact c = subst (λ (command : Command). DecidesOwn c.args.view.now c.args.caller.now command c.review.result) (sym c.in-Review.is) (λ owner cs key legal shown. reviews c.args.view.now c.args.caller.now c.in-Review.ballot owner cs key shown c.review.result c.review.ensures)

pub returns-in-Withdraw-clause-exact : goal.returns-in-Withdraw-clause-exact
returns-in-Withdraw-clause-exact c = subst (λ (command : Command). DecidesOwn c.args.view.now c.args.caller.now command c.withdraw.result) (sym c.in-Withdraw.is) (λ owner cs key legal shown. withdraws_request c.args.view.now c.args.caller.now c.in-Withdraw.number owner cs key shown c.withdraw.result c.withdraw.ensures)

pub returns-in-Return-clause-exact : goal.returns-in-Return-clause-exact
returns-in-Return-clause-exact c = subst (λ (command : Command). DecidesOwn c.args.view.now c.args.caller.now command c.return_file.result) (sym c.in-Return.is) (λ owner cs key legal shown. returns_file c.args.view.now c.args.caller.now c.in-Return.returned_file owner cs key shown c.return_file.result c.return_file.ensures)

pub returns-in-ListCertificate-clause-exact : goal.returns-in-ListCertificate-clause-exact
returns-in-ListCertificate-clause-exact c = subst (λ (command : Command). DecidesOwn c.args.view.now c.args.caller.now command c.list_certificate.result) (sym c.in-ListCertificate.is) (lists_certificate c.args.view.now c.args.caller.now c.in-ListCertificate.certificate c.list_certificate.result c.list_certificate.ensures)

pub returns-in-ListDigest-clause-exact : goal.returns-in-ListDigest-clause-exact
returns-in-ListDigest-clause-exact c = subst (λ (command : Command). DecidesOwn c.args.view.now c.args.caller.now command c.list_digest.result) (sym c.in-ListDigest.is) (lists_digest c.args.view.now c.args.caller.now c.in-ListDigest.digest c.list_digest.result c.list_digest.ensures)

pub returns-in-Unlist-clause-exact : goal.returns-in-Unlist-clause-exact
returns-in-Unlist-clause-exact c = subst (λ (command : Command). DecidesOwn c.args.view.now c.args.caller.now command c.unlist.result) (sym c.in-Unlist.is) (unlists c.args.view.now c.args.caller.now c.in-Unlist.listing c.unlist.result c.unlist.ensures)

pub returns-in-Submit-clause-exact : goal.returns-in-Submit-clause-exact
returns-in-Submit-clause-exact c = subst (λ (command : Command). DecidesOwn c.args.view.now c.args.caller.now command c.submit_next.result) (sym c.in-Submit.is) (c.submit_next.ensures.exact)

pub returns-in-AddPerson-clause-only : goal.returns-in-AddPerson-clause-only
returns-in-AddPerson-clause-only c = adds_only c.args.view.now c.add_person.result c.in-AddPerson.person c.add_person.ensures

pub returns-in-Review-clause-only : goal.returns-in-Review-clause-only
returns-in-Review-clause-only c = reviews_only c.args.view.now c.review.result c.args.caller.now c.in-Review.ballot c.review.ensures

pub returns-in-Withdraw-clause-only : goal.returns-in-Withdraw-clause-only
returns-in-Withdraw-clause-only c = withdraws_only c.args.view.now c.withdraw.result c.args.caller.now c.in-Withdraw.number c.withdraw.ensures

pub returns-in-Return-clause-only : goal.returns-in-Return-clause-only
returns-in-Return-clause-only c = returns_only c.args.view.now c.return_file.result c.args.caller.now c.in-Return.returned_file c.return_file.ensures

pub returns-in-ListCertificate-clause-only : goal.returns-in-ListCertificate-clause-only
returns-in-ListCertificate-clause-only c = lists_only c.args.view.now c.list_certificate.result kinds.Certificate c.in-ListCertificate.certificate.tbs (record { kind = kinds.Certificate; digest = c.in-ListCertificate.certificate.tbs; body = c.in-ListCertificate.certificate.body }) c.list_certificate.ensures

pub returns-in-ListDigest-clause-only : goal.returns-in-ListDigest-clause-only
returns-in-ListDigest-clause-only c = lists_only c.args.view.now c.list_digest.result kinds.Digest c.in-ListDigest.digest (record { kind = kinds.Digest; digest = c.in-ListDigest.digest; body = [] }) c.list_digest.ensures

pub returns-in-Unlist-clause-only : goal.returns-in-Unlist-clause-only
returns-in-Unlist-clause-only c = unlists_only c.args.view.now c.unlist.result c.in-Unlist.listing c.unlist.ensures

pub returns-in-RevokeDigest-clause-exact : goal.returns-in-RevokeDigest-clause-exact
returns-in-RevokeDigest-clause-exact c = subst (λ (command : Command). DecidesOwn c.args.view.now c.args.caller.now command c.propose_digest.result) (sym c.in-RevokeDigest.is) (c.propose_digest.ensures.exact)

pub returns-in-RevokeCertificate-clause-exact : goal.returns-in-RevokeCertificate-clause-exact
returns-in-RevokeCertificate-clause-exact c = subst (λ (command : Command). DecidesOwn c.args.view.now c.args.caller.now command c.propose_certificate.result) (sym c.in-RevokeCertificate.is) (c.propose_certificate.ensures.exact)

pub returns-in-RaiseLevel-clause-exact : goal.returns-in-RaiseLevel-clause-exact
returns-in-RaiseLevel-clause-exact c = subst (λ (command : Command). DecidesOwn c.args.view.now c.args.caller.now command c.propose_level.result) (sym c.in-RaiseLevel.is) (c.propose_level.ensures.exact)

pub returns-in-ImportRevocations-clause-exact : goal.returns-in-ImportRevocations-clause-exact
returns-in-ImportRevocations-clause-exact c = subst (λ (command : Command). DecidesOwn c.args.view.now c.args.caller.now command c.propose_import.result) (sym c.in-ImportRevocations.is) (c.propose_import.ensures.exact)

pub returns-in-Confirm-clause-exact : goal.returns-in-Confirm-clause-exact
returns-in-Confirm-clause-exact c = subst (λ (command : Command). DecidesOwn c.args.view.now c.args.caller.now command c.confirm.result) (sym c.in-Confirm.is) (c.confirm.ensures.exact)

pub returns-in-Drop-clause-exact : goal.returns-in-Drop-clause-exact
returns-in-Drop-clause-exact c = subst (λ (command : Command). DecidesOwn c.args.view.now c.args.caller.now command c.drop_proposal.result) (sym c.in-Drop.is) (drops c.args.view.now c.args.caller.now c.in-Drop.number c.drop_proposal.result c.drop_proposal.ensures)

pub returns-in-Drop-clause-only : goal.returns-in-Drop-clause-only
returns-in-Drop-clause-only c = drops_only c.args.view.now c.drop_proposal.result c.in-Drop.number (replies.Dropped c.in-Drop.number) (writes.ProposalState (record { proposal = c.in-Drop.number; state = states.Dropped }) ∷ []) c.drop_proposal.ensures

pub returns-in-Explain-clause-exact : goal.returns-in-Explain-clause-exact
returns-in-Explain-clause-exact c = subst (λ (command : Command). DecidesOwn c.args.view.now c.args.caller.now command c.explain_proposal.result) (sym c.in-Explain.is) (explains c.args.view.now c.args.caller.now c.in-Explain.explanation c.explain_proposal.result c.explain_proposal.ensures)

pub returns-in-Explain-clause-only : goal.returns-in-Explain-clause-only
returns-in-Explain-clause-only c = explains_only c.args.view.now c.explain_proposal.result c.in-Explain.explanation.proposal (replies.Explained c.in-Explain.explanation.proposal) [] c.explain_proposal.ensures
