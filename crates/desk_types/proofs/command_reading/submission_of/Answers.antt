use Rattle.std.proofs.Common.{◌≡◌, ◌∷◌, ◌++◌, Err, refl, sym, ap, ◌∙◌}
use Rattle.desk_types.specs.Forms.{is_title}
use Rattle.desk_types.specs.Items.{components_text, digests_text, facts_text}
use Rattle.desk_types.specs.Reading.{measures_then}
use Rattle.desk_types.proofs.CommandReadingLemmas.{facts_then, tested}
use Rattle.desk_types.proofs.FactsReadingLemmas.{facts_measured, measures_rest, parted_same, unparted}
use Rattle.desk_types.proofs.ItemReadingLemmas.{passed_on}
use Rattle.desk_types.proofs.ValueLemmas.{components_free, digests_free}
use Rattle.desk_types.proofs.command_reading.submission_of.Goals as goal

pub returns-in_default-clause-only : goal.returns-in_default-clause-only
returns-in_default-clause-only c = λ fault s form within same.
    let f = s.facts in
    let whole = same ∙ facts_then f.extent f.file f.digest f.signing (digests_text f.carried) (components_text f.components) (facts_text f) s.title refl in
    c.in_default.ensures.only f.extent f.file f.digest f.signing _ (facts_measured f form.1 within) whole

pub returns-in_default-parted_at_space-clause-only : goal.returns-in_default-parted_at_space-clause-only
returns-in_default-parted_at_space-clause-only c = λ fault s form within same.
    let read = c.in-Some.ensures.found in
    let m = c.in-Some.measures in
    let f = s.facts in
    let whole = same ∙ facts_then f.extent f.file f.digest f.signing (digests_text f.carried) (components_text f.components) (facts_text f) s.title refl in
    let lists = measures_rest c.args.text.now c.in-Some.text.now _ m.extent f.extent m.file m.digest m.signing f.file f.digest f.signing read.0 (facts_measured f form.1 within) read.1 whole in
    unparted c.in-Some.text.now (digests_text f.carried) _ c.in_default-parted_at_space.ensures.only lists

pub returns-in_default-parted_at_space-2-clause-only : goal.returns-in_default-parted_at_space-2-clause-only
returns-in_default-parted_at_space-2-clause-only c = λ fault s form within same.
    let read = c.in-Some.ensures.found in
    let m = c.in-Some.measures in
    let f = s.facts in
    let whole = same ∙ facts_then f.extent f.file f.digest f.signing (digests_text f.carried) (components_text f.components) (facts_text f) s.title refl in
    let lists = measures_rest c.args.text.now c.in-Some.text.now _ m.extent f.extent m.file m.digest m.signing f.file f.digest f.signing read.0 (facts_measured f form.1 within) read.1 whole in
    let one = parted_same c.in-Some.text.now c.in-Some-parted_at_space.carried.now c.in-Some-parted_at_space.text.now (digests_text f.carried) _
    c.in-Some-parted_at_space.ensures.found (digests_free f.carried form.1.carried) lists in
    unparted c.in-Some-parted_at_space.text.now (components_text f.components) s.title c.in_default-parted_at_space-2.ensures.only one.1

pub returns-in_err-facts-clause-only : goal.returns-in_err-facts-clause-only
returns-in_err-facts-clause-only c = λ fault s form within same.
    let read = c.in-Some.ensures.found in
    let m = c.in-Some.measures in
    let f = s.facts in
    let whole = same ∙ facts_then f.extent f.file f.digest f.signing (digests_text f.carried) (components_text f.components) (facts_text f) s.title refl in
    let lists = measures_rest c.args.text.now c.in-Some.text.now _ m.extent f.extent m.file m.digest m.signing f.file f.digest f.signing read.0 (facts_measured f form.1 within) read.1 whole in
    let one = parted_same c.in-Some.text.now c.in-Some-parted_at_space.carried.now c.in-Some-parted_at_space.text.now (digests_text f.carried) _
    c.in-Some-parted_at_space.ensures.found (digests_free f.carried form.1.carried) lists in
    let two = parted_same c.in-Some-parted_at_space.text.now c.in-Some-parted_at_space-2.components.now c.in-Some-parted_at_space-2.title.now (components_text f.components) s.title
    c.in-Some-parted_at_space-2.ensures.found (components_free f.components form.1.components) one.1 in
    c.in_err-facts.ensures.only (ap Err (passed_on c.from_residual.result _ _ c.from_residual.ensures fault)) f form.1 within one.0 two.0

pub returns-in_err-title-clause-only : goal.returns-in_err-title-clause-only
returns-in_err-title-clause-only c = λ fault s form within same.
    let read = c.in-Some.ensures.found in
    let m = c.in-Some.measures in
    let f = s.facts in
    let whole = same ∙ facts_then f.extent f.file f.digest f.signing (digests_text f.carried) (components_text f.components) (facts_text f) s.title refl in
    let lists = measures_rest c.args.text.now c.in-Some.text.now _ m.extent f.extent m.file m.digest m.signing f.file f.digest f.signing read.0 (facts_measured f form.1 within) read.1 whole in
    let one = parted_same c.in-Some.text.now c.in-Some-parted_at_space.carried.now c.in-Some-parted_at_space.text.now (digests_text f.carried) _
    c.in-Some-parted_at_space.ensures.found (digests_free f.carried form.1.carried) lists in
    let two = parted_same c.in-Some-parted_at_space.text.now c.in-Some-parted_at_space-2.components.now c.in-Some-parted_at_space-2.title.now (components_text f.components) s.title
    c.in-Some-parted_at_space-2.ensures.found (components_free f.components form.1.components) one.1 in
    let form_fault = passed_on c.from_residual-in_err-title.result _ _ c.from_residual-in_err-title.ensures fault in
    let memory = c.in_err-title.ensures.found (ap is_title two.1 ∙ form.0) in
    absurd (cc)

pub returns-clause-found : goal.returns-clause-found
returns-clause-found c =
    let m = c.in-Some.measures in
    let facts = facts_text c.in_ok-facts.facts in
    let carried = c.in-Some-parted_at_space.carried.now in
    let components = c.in-Some-parted_at_space-2.components.now in
    let title = c.in-Some-parted_at_space-2.title.now in
    let lists = c.in-Some-parted_at_space.ensures.found.0 ∙ ap (λ t. carried ++ (32 ∷ t)) c.in-Some-parted_at_space-2.ensures.found.0 in
    let same : c.in_ok-title.title ≡ title = tested (is_title title) c.in_ok-title.ensures.found (λ e. let refused = c.in_ok-title.ensures.only e in absurd (cc)) in
    c.in-Some.ensures.found.1 ∙ ap (measures_then m.extent m.file m.digest m.signing) lists
    ∙ sym (facts_then m.extent m.file m.digest m.signing carried components facts title c.in_ok-facts.ensures.found) ∙ ap (λ t. facts ++ (32 ∷ t)) (sym same)
