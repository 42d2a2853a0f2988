use Rattle.std.proofs.Common.{Err, decimal, ap}
use Rattle.desk_types.proofs.FactsReadingLemmas.{parted_same, unparted}
use Rattle.desk_types.proofs.ItemReadingLemmas.{passed_on}
use Rattle.desk_types.proofs.ValueLemmas.{component_name_free, decimal_free, generation_small}
use Rattle.desk_types.proofs.command_reading.raise_of.Goals as goal

pub returns-in_default-parted_at_space-clause-only : goal.returns-in_default-parted_at_space-clause-only
returns-in_default-parted_at_space-clause-only c = λ fault r form within same.
    let first = parted_same c.args.text.now c.in-Some.name.now c.in-Some.text.now r.component.name _ c.in-Some.ensures.found (component_name_free r.component.name form.0.name) same in
    unparted c.in-Some.text.now (decimal r.component.generation) (decimal r.stamp) c.in_default-parted_at_space.ensures.only first.1

pub returns-in_default-generation_of-clause-only : goal.returns-in_default-generation_of-clause-only
returns-in_default-generation_of-clause-only c = λ fault r form within same.
    let first = parted_same c.args.text.now c.in-Some.name.now c.in-Some.text.now r.component.name _ c.in-Some.ensures.found (component_name_free r.component.name form.0.name) same in
    let second = parted_same c.in-Some.text.now c.in-Some-parted_at_space.generation.now c.in-Some-parted_at_space.stamp.now (decimal r.component.generation) (decimal r.stamp)
    c.in-Some-parted_at_space.ensures.found (decimal_free r.component.generation (generation_small r.component.generation form.0.generation)) first.1 in
    c.in_default-generation_of.ensures.only r.component.generation form.0.generation second.0

pub returns-in_default-stamp_of-clause-only : goal.returns-in_default-stamp_of-clause-only
returns-in_default-stamp_of-clause-only c = λ fault r form within same.
    let first = parted_same c.args.text.now c.in-Some.name.now c.in-Some.text.now r.component.name _ c.in-Some.ensures.found (component_name_free r.component.name form.0.name) same in
    let second = parted_same c.in-Some.text.now c.in-Some-parted_at_space.generation.now c.in-Some-parted_at_space.stamp.now (decimal r.component.generation) (decimal r.stamp)
    c.in-Some-parted_at_space.ensures.found (decimal_free r.component.generation (generation_small r.component.generation form.0.generation)) first.1 in
    c.in_default-stamp_of.ensures.only r.stamp form.1 second.1

pub returns-in_err-component-clause-only : goal.returns-in_err-component-clause-only
returns-in_err-component-clause-only c = λ fault r form within same.
    let first = parted_same c.args.text.now c.in-Some.name.now c.in-Some.text.now r.component.name _ c.in-Some.ensures.found (component_name_free r.component.name form.0.name) same in
    c.in_err-component.ensures.only (ap Err (passed_on c.from_residual.result _ _ c.from_residual.ensures fault)) r.component form.0 first.0
