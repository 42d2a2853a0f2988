use Rattle.std.proofs.Common.{◌≢◌, [], ◌∷◌, decimal}
use Rattle.desk_types.specs.Commands.{AreCounts}
use Rattle.desk_types.specs.Items.{spaced}
use Rattle.desk_types.specs.declared.reply.Counts.{Counts}
use Rattle.desk_types.proofs.SpaceLemmas.{behind_number, none_fact}
use Rattle.desk_types.proofs.reply_reading.counts_of.Goals as goal

pub returns-in_err-certificates-clause-only : goal.returns-in_err-certificates-clause-only
returns-in_err-certificates-clause-only c =
    let first = c.in_ok-digests.ensures.found in
    let none : (n : Counts) → AreCounts n → c.args.text.now ≢ spaced (decimal n.digests ∷ decimal n.certificates ∷ decimal n.components ∷ decimal n.passed ∷ []) =
    λ n form same.
    c.in_err-certificates.ensures.only n.certificates (spaced (decimal n.components ∷ decimal n.passed ∷ [])) form.1
    (behind_number c.args.text.now c.in_ok-digests.text.now _ c.in_ok-digests.digests n.digests first.0 form.0 first.1 same) in
    none_fact _ none

pub returns-in_err-components-clause-only : goal.returns-in_err-components-clause-only
returns-in_err-components-clause-only c =
    let first = c.in_ok-digests.ensures.found in
    let second = c.in_ok-certificates.ensures.found in
    let none : (n : Counts) → AreCounts n → c.args.text.now ≢ spaced (decimal n.digests ∷ decimal n.certificates ∷ decimal n.components ∷ decimal n.passed ∷ []) =
    λ n form same.
    c.in_err-components.ensures.only n.components (decimal n.passed) form.2
    (behind_number c.in_ok-digests.text.now c.in_ok-certificates.text.now _ c.in_ok-certificates.certificates n.certificates second.0 form.1 second.1
    (behind_number c.args.text.now c.in_ok-digests.text.now _ c.in_ok-digests.digests n.digests first.0 form.0 first.1 same)) in
    none_fact _ none

pub returns-in_err-passed-clause-only : goal.returns-in_err-passed-clause-only
returns-in_err-passed-clause-only c =
    let first = c.in_ok-digests.ensures.found in
    let second = c.in_ok-certificates.ensures.found in
    let third = c.in_ok-components.ensures.found in
    let none : (n : Counts) → AreCounts n → c.args.text.now ≢ spaced (decimal n.digests ∷ decimal n.certificates ∷ decimal n.components ∷ decimal n.passed ∷ []) =
    λ n form same.
    c.in_err-passed.ensures.only n.passed form.3
    (behind_number c.in_ok-certificates.text.now c.in_ok-components.text.now _ c.in_ok-components.components n.components third.0 form.2 third.1
    (behind_number c.in_ok-digests.text.now c.in_ok-certificates.text.now _ c.in_ok-certificates.certificates n.certificates second.0 form.1 second.1
    (behind_number c.args.text.now c.in_ok-digests.text.now _ c.in_ok-digests.digests n.digests first.0 form.0 first.1 same))) in
    none_fact _ none
