use Rattle.std.proofs.Common.{Err, ap}
use Rattle.desk_types.specs.Items.{digests_text, stamp_text}
use Rattle.desk_types.proofs.CommandReadingLemmas.{certificates_few, components_few, digests_few, import_refused}
use Rattle.desk_types.proofs.FactsReadingLemmas.{components_same, digests_same, number_same, parted_same, unparted}
use Rattle.desk_types.proofs.ItemReadingLemmas.{passed_on}
use Rattle.desk_types.proofs.ValueLemmas.{digests_free, stamp_free}
use Rattle.desk_types.proofs.command_reading.import_of.Goals as goal

pub returns-in_default-stamp_or_none-clause-only : goal.returns-in_default-stamp_or_none-clause-only
returns-in_default-stamp_or_none-clause-only c = λ fault i form within same.
    let first = parted_same c.args.text.now c.in-Some.stamp.now c.in-Some.text.now (stamp_text i.stamp) _ c.in-Some.ensures.found (stamp_free i.stamp form.stamp) same in
    c.in_default-stamp_or_none.ensures.only i.stamp form.stamp first.0

pub returns-in_default-count_before-clause-only : goal.returns-in_default-count_before-clause-only
returns-in_default-count_before-clause-only c = λ fault i form within same.
    let first = parted_same c.args.text.now c.in-Some.stamp.now c.in-Some.text.now (stamp_text i.stamp) _ c.in-Some.ensures.found (stamp_free i.stamp form.stamp) same in
    c.in_default-count_before.ensures.only i.passed _ form.passed first.1

pub returns-in_default-parted_at_space-clause-only : goal.returns-in_default-parted_at_space-clause-only
returns-in_default-parted_at_space-clause-only c = λ fault i form within same.
    let first = parted_same c.args.text.now c.in-Some.stamp.now c.in-Some.text.now (stamp_text i.stamp) _ c.in-Some.ensures.found (stamp_free i.stamp form.stamp) same in
    let count = c.in-Some-count_before.ensures.found in
    let second = number_same c.in-Some.text.now c.in-Some-count_before.text.now _ c.in-Some-count_before.passed i.passed count.0 form.passed count.1 first.1 in
    unparted c.in-Some-count_before.text.now (digests_text i.digests) _ c.in_default-parted_at_space.ensures.only second.1

pub returns-in_default-parted_at_space-2-clause-only : goal.returns-in_default-parted_at_space-2-clause-only
returns-in_default-parted_at_space-2-clause-only c = λ fault i form within same.
    let first = parted_same c.args.text.now c.in-Some.stamp.now c.in-Some.text.now (stamp_text i.stamp) _ c.in-Some.ensures.found (stamp_free i.stamp form.stamp) same in
    let count = c.in-Some-count_before.ensures.found in
    let second = number_same c.in-Some.text.now c.in-Some-count_before.text.now _ c.in-Some-count_before.passed i.passed count.0 form.passed count.1 first.1 in
    let third = parted_same c.in-Some-count_before.text.now c.in-Some-parted_at_space.digests.now c.in-Some-parted_at_space.text.now (digests_text i.digests) _
    c.in-Some-parted_at_space.ensures.found (digests_free i.digests form.digests) second.1 in
    unparted c.in-Some-parted_at_space.text.now (digests_text i.certificates) _ c.in_default-parted_at_space-2.ensures.only third.1

pub returns-in_err-digests-clause-only : goal.returns-in_err-digests-clause-only
returns-in_err-digests-clause-only c = λ fault i form within same.
    let first = parted_same c.args.text.now c.in-Some.stamp.now c.in-Some.text.now (stamp_text i.stamp) _ c.in-Some.ensures.found (stamp_free i.stamp form.stamp) same in
    let count = c.in-Some-count_before.ensures.found in
    let second = number_same c.in-Some.text.now c.in-Some-count_before.text.now _ c.in-Some-count_before.passed i.passed count.0 form.passed count.1 first.1 in
    let third = parted_same c.in-Some-count_before.text.now c.in-Some-parted_at_space.digests.now c.in-Some-parted_at_space.text.now (digests_text i.digests) _
    c.in-Some-parted_at_space.ensures.found (digests_free i.digests form.digests) second.1 in
    c.in_err-digests.ensures.only (ap Err (passed_on c.from_residual.result _ _ c.from_residual.ensures fault)) i.digests form.digests (digests_few i within) third.0

pub returns-in_err-certificates-clause-only : goal.returns-in_err-certificates-clause-only
returns-in_err-certificates-clause-only c = λ fault i form within same.
    let first = parted_same c.args.text.now c.in-Some.stamp.now c.in-Some.text.now (stamp_text i.stamp) _ c.in-Some.ensures.found (stamp_free i.stamp form.stamp) same in
    let count = c.in-Some-count_before.ensures.found in
    let second = number_same c.in-Some.text.now c.in-Some-count_before.text.now _ c.in-Some-count_before.passed i.passed count.0 form.passed count.1 first.1 in
    let third = parted_same c.in-Some-count_before.text.now c.in-Some-parted_at_space.digests.now c.in-Some-parted_at_space.text.now (digests_text i.digests) _
    c.in-Some-parted_at_space.ensures.found (digests_free i.digests form.digests) second.1 in
    let fourth = parted_same c.in-Some-parted_at_space.text.now c.in-Some-parted_at_space-2.certificates.now c.in-Some-parted_at_space-2.components.now (digests_text i.certificates) _
    c.in-Some-parted_at_space-2.ensures.found (digests_free i.certificates form.certificates) third.1 in
    c.in_err-certificates.ensures.only (ap Err (passed_on c.from_residual-in_err-certificates.result _ _ c.from_residual-in_err-certificates.ensures fault)) i.certificates form.certificates
    (certificates_few i within) fourth.0

pub returns-in_err-components-clause-only : goal.returns-in_err-components-clause-only
returns-in_err-components-clause-only c = λ fault i form within same.
    let first = parted_same c.args.text.now c.in-Some.stamp.now c.in-Some.text.now (stamp_text i.stamp) _ c.in-Some.ensures.found (stamp_free i.stamp form.stamp) same in
    let count = c.in-Some-count_before.ensures.found in
    let second = number_same c.in-Some.text.now c.in-Some-count_before.text.now _ c.in-Some-count_before.passed i.passed count.0 form.passed count.1 first.1 in
    let third = parted_same c.in-Some-count_before.text.now c.in-Some-parted_at_space.digests.now c.in-Some-parted_at_space.text.now (digests_text i.digests) _
    c.in-Some-parted_at_space.ensures.found (digests_free i.digests form.digests) second.1 in
    let fourth = parted_same c.in-Some-parted_at_space.text.now c.in-Some-parted_at_space-2.certificates.now c.in-Some-parted_at_space-2.components.now (digests_text i.certificates) _
    c.in-Some-parted_at_space-2.ensures.found (digests_free i.certificates form.certificates) third.1 in
    c.in_err-components.ensures.only (ap Err (passed_on c.from_residual-in_err-components.result _ _ c.from_residual-in_err-components.ensures fault)) i.components form.components
    (components_few i within) within.no_sbat fourth.1

pub returns-in-None-clause-only : goal.returns-in-None-clause-only
returns-in-None-clause-only c = λ fault i form within same.
    let first = parted_same c.args.text.now c.in-Some.stamp.now c.in-Some.text.now (stamp_text i.stamp) _ c.in-Some.ensures.found (stamp_free i.stamp form.stamp) same in
    let count = c.in-Some-count_before.ensures.found in
    let second = number_same c.in-Some.text.now c.in-Some-count_before.text.now _ c.in-Some-count_before.passed i.passed count.0 form.passed count.1 first.1 in
    let third = parted_same c.in-Some-count_before.text.now c.in-Some-parted_at_space.digests.now c.in-Some-parted_at_space.text.now (digests_text i.digests) _
    c.in-Some-parted_at_space.ensures.found (digests_free i.digests form.digests) second.1 in
    let fourth = parted_same c.in-Some-parted_at_space.text.now c.in-Some-parted_at_space-2.certificates.now c.in-Some-parted_at_space-2.components.now (digests_text i.certificates) _
    c.in-Some-parted_at_space-2.ensures.found (digests_free i.certificates form.certificates) third.1 in
    let one = c.in_ok-digests.ensures.found in
    let two = c.in_ok-certificates.ensures.found in
    let three = c.in_ok-components.ensures.found in
    import_refused c.in-Some-count_before.passed c.in_ok-digests.digests c.in_ok-certificates.certificates c.in_ok-components.components i c.in-None.ensures second.0
    (digests_same _ c.in_ok-digests.digests i.digests one.0 form.digests one.1 third.0)
    (digests_same _ c.in_ok-certificates.certificates i.certificates two.0 form.certificates two.1 fourth.0)
    (components_same _ c.in_ok-components.components i.components three.0 form.components three.1 fourth.1) within
