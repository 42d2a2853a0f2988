use Rattle.std.proofs.Common.{Err, ap}
use Rattle.desk_types.specs.Commands.{IsComponent}
use Rattle.desk_types.specs.Items.{component_text}
use Rattle.desk_types.proofs.ItemReadingLemmas.{Reads-ends, Reads-more, Reads-not_last, Reads-not_more, equal_not, passed_on}
use Rattle.desk_types.proofs.ValueLemmas.{component_items}
use Rattle.desk_types.proofs.items_reading.components_of.Goals as goal

pub returns-in_err-add_component-clause-only : goal.returns-in_err-add_component-clause-only
returns-in_err-add_component-clause-only c = λ fault.
    Reads-not_more IsComponent component_text component_items c.args.text.now c.loop-item.components.items c.loop-item.rest.now c.in-Some.item.now c.in-Some.more.now c.loop-item.invariant
    c.in-Some.ensures.found (c.in_err-add_component.ensures.only (ap Err (passed_on c.from_residual.result _ _ c.from_residual.ensures fault)))
    (equal_not c.args.text.now c.as_slice.result.now _ c.eq.result c.as_slice.ensures c.eq.ensures c.if-eq.false)

pub loop-item-preserved : goal.loop-item-preserved
loop-item-preserved c =
    Reads-more IsComponent component_text c.args.text.now c.loop-item.components.items c.add_component.new.components.items c.loop-item.rest.now c.in-Some.item.now c.in-Some.more.now c.loop-item.invariant
    c.in-Some.ensures.found c.in_ok-add_component.ensures.found

pub returns-in_err-add_component-2-clause-only : goal.returns-in_err-add_component-2-clause-only
returns-in_err-add_component-2-clause-only c = λ fault.
    Reads-not_last IsComponent component_text component_items c.args.text.now c.loop-item.components.items c.loop-item.rest.now c.loop-item.invariant c.in_default.ensures.only
    (c.in_err-add_component-2.ensures.only (ap Err (passed_on c.from_residual-in_err-add_component-2.result _ _ c.from_residual-in_err-add_component-2.ensures fault)))
    (equal_not c.args.text.now c.as_slice.result.now _ c.eq.result c.as_slice.ensures c.eq.ensures c.if-eq.false)

pub returns-clause-found : goal.returns-clause-found
returns-clause-found c =
    Reads-ends IsComponent component_text c.args.text.now c.loop-item.components.items c.add_component-2.new.components.items c.loop-item.rest.now c.loop-item.invariant c.in_default.ensures.only
    c.in_ok-add_component-2.ensures.found
