use Rattle.std.proofs.Common.{◌∷◌, []}
use Rattle.desk_types.specs.Items.{components_text, digests_text, spaced}
use Rattle.desk_types.proofs.FactsReadingLemmas.{facts_measured, measures_rest, parted_same, unparted}
use Rattle.desk_types.proofs.ValueLemmas.{digests_free}
use Rattle.desk_types.proofs.facts_reading.facts_of.Goals as goal

pub returns-in_default-clause-only : goal.returns-in_default-clause-only
returns-in_default-clause-only c = λ fault f form within same.
    c.in_default.ensures.only f.extent f.file f.digest f.signing (spaced (digests_text f.carried ∷ components_text f.components ∷ [])) (facts_measured f form within) same

pub returns-in_default-parted_at_space-clause-only : goal.returns-in_default-parted_at_space-clause-only
returns-in_default-parted_at_space-clause-only c = λ fault f form within same.
    let read = c.in-Some.ensures.found in
    let m = c.in-Some.measures in
    let lists = measures_rest c.args.text.now c.in-Some.lists.now _ m.extent f.extent m.file m.digest m.signing f.file f.digest f.signing read.0 (facts_measured f form within) read.1 same in
    unparted c.in-Some.lists.now (digests_text f.carried) (components_text f.components) c.in_default-parted_at_space.ensures.only lists

pub returns-clause-only : goal.returns-clause-only
returns-clause-only c = λ fault f form within same.
    let read = c.in-Some.ensures.found in
    let m = c.in-Some.measures in
    let lists = measures_rest c.args.text.now c.in-Some.lists.now _ m.extent f.extent m.file m.digest m.signing f.file f.digest f.signing read.0 (facts_measured f form within) read.1 same in
    let parts = parted_same c.in-Some.lists.now c.in-Some-parted_at_space.carried.now c.in-Some-parted_at_space.components.now (digests_text f.carried) (components_text f.components)
    c.in-Some-parted_at_space.ensures.found (digests_free f.carried form.carried) lists in
    c.facts_with.ensures.only fault f form within parts.0 parts.1
