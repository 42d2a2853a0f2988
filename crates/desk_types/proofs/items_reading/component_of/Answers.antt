use Rattle.std.proofs.Common.{decimal, ap, sym, ◌∙◌}
use Rattle.desk_types.proofs.FieldLemmas.{is_free}
use Rattle.desk_types.proofs.SpaceLemmas.{cut_once, cut_whole}
use Rattle.desk_types.proofs.ValueLemmas.{colon_free, generation_small}
use Rattle.desk_types.proofs.items_reading.component_of.Goals as goal

pub returns-in_default-clause-only : goal.returns-in_default-clause-only
returns-in_default-clause-only c = λ fault component form same.
    cut_whole 58 (decimal component.generation) component.name (ap (is_free 58) (sym same) ∙ c.in_default.ensures.only)

pub returns-in_default-generation_of-clause-only : goal.returns-in_default-generation_of-clause-only
returns-in_default-generation_of-clause-only c = λ fault component form same.
    let parts = c.in-Some.ensures.found in
    c.in_default-generation_of.ensures.only component.generation form.generation
    (cut_once 58 c.in-Some.generation.now c.in-Some.name.now (decimal component.generation) component.name parts.1
    (colon_free component.generation (generation_small component.generation form.generation)) (sym parts.0 ∙ same)).0

pub returns-clause-only : goal.returns-clause-only
returns-clause-only c = λ fault component form same.
    let parts = c.in-Some.ensures.found in
    c.named_component.ensures.only fault component form
    (cut_once 58 c.in-Some.generation.now c.in-Some.name.now (decimal component.generation) component.name parts.1
    (colon_free component.generation (generation_small component.generation form.generation)) (sym parts.0 ∙ same)).1
