use Rattle.std.proofs.Common.{◌≡◌, ◌≢◌, [], ◌∷◌, decimal, true, sym, ◌∙◌}
use Rattle.desk_types.specs.Forms.{is_request_number}
use Rattle.desk_types.specs.Items.{spaced}
use Rattle.desk_types.specs.Words.{state_text}
use Rattle.desk_types.specs.declared.reply.Outcome.{Outcome}
use Rattle.desk_types.proofs.PartLemmas.{request_small}
use Rattle.desk_types.proofs.SpaceLemmas.{none_fact, parted_once}
use Rattle.desk_types.proofs.ValueLemmas.{decimal_free}
use Rattle.desk_types.proofs.reply_reading.outcome_of.Goals as goal

pub returns-in_err-request-clause-only : goal.returns-in_err-request-clause-only
returns-in_err-request-clause-only c =
    let parts = c.in_ok-number.ensures.found in
    let none : (o : Outcome) → is_request_number o.request ≡ true → c.args.text.now ≢ spaced (decimal o.request ∷ state_text o.state ∷ []) =
    λ o form same.
    c.in_err-request.ensures.only o.request form
    (parted_once c.in_ok-number.number.now c.in_ok-number.state.now (decimal o.request) (state_text o.state) parts.1
    (decimal_free o.request (request_small o.request form)) (sym parts.0 ∙ same)).0 in
    none_fact _ none

pub returns-in_err-state-clause-only : goal.returns-in_err-state-clause-only
returns-in_err-state-clause-only c =
    let parts = c.in_ok-number.ensures.found in
    let none : (o : Outcome) → is_request_number o.request ≡ true → c.args.text.now ≢ spaced (decimal o.request ∷ state_text o.state ∷ []) =
    λ o form same.
    c.in_err-state.ensures.only o.state
    (parted_once c.in_ok-number.number.now c.in_ok-number.state.now (decimal o.request) (state_text o.state) parts.1
    (decimal_free o.request (request_small o.request form)) (sym parts.0 ∙ same)).1 in
    none_fact _ none
