use Rattle.std.proofs.Common.{◌≢◌, ◌∷◌, ◌++◌, decimal, sym, ◌∙◌}
use Rattle.desk_types.specs.Commands.{IsReply}
use Rattle.desk_types.specs.declared.reply.Confirmation.{Confirmation}
use Rattle.desk_types.specs.declared.reply.Reply.TheVariants.{Confirmed}
use Rattle.desk_types.proofs.PartLemmas.{request_small}
use Rattle.desk_types.proofs.ReplyLemmas.{four}
use Rattle.desk_types.proofs.SpaceLemmas.{none_fact, parted_once}
use Rattle.desk_types.proofs.ValueLemmas.{decimal_free}
use Rattle.desk_types.proofs.reply_reading.confirmation_of.Goals as goal

pub returns-in_err-proposal-clause-only : goal.returns-in_err-proposal-clause-only
returns-in_err-proposal-clause-only c =
    let parts = c.in_ok-number.ensures.found in
    let none : (n : Confirmation) → IsReply (Confirmed n) → c.args.text.now ≢ decimal n.proposal ++ (32 ∷ four n.counts) =
    λ n form same.
    c.in_err-proposal.ensures.only n.proposal form.0
    (parted_once c.in_ok-number.number.now c.in_ok-number.counts.now (decimal n.proposal) (four n.counts) parts.1
    (decimal_free n.proposal (request_small n.proposal form.0)) (sym parts.0 ∙ same)).0 in
    none_fact _ none

pub returns-in_err-counts-clause-only : goal.returns-in_err-counts-clause-only
returns-in_err-counts-clause-only c =
    let parts = c.in_ok-number.ensures.found in
    let none : (n : Confirmation) → IsReply (Confirmed n) → c.args.text.now ≢ decimal n.proposal ++ (32 ∷ four n.counts) =
    λ n form same.
    c.in_err-counts.ensures.only n.counts form.1
    (parted_once c.in_ok-number.number.now c.in_ok-number.counts.now (decimal n.proposal) (four n.counts) parts.1
    (decimal_free n.proposal (request_small n.proposal form.0)) (sym parts.0 ∙ same)).1 in
    none_fact _ none
