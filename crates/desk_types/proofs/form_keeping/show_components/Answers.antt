use Rattle.std.proofs.Common.{subst, sym, take}
use Rattle.std.proofs.lemmas.List.{take_all}
use Rattle.std.proofs.lemmas.List.Elements.{All-more, All-same}
use Rattle.desk_types.specs.Commands.{IsComponent}
use Rattle.desk_types.proofs.form_keeping.show_components.Goals as goal

pub loop-component-preserved : goal.loop-component-preserved
loop-component-preserved c =
    All-more IsComponent c.args.components.now c.loop-component.component-index c.component-item.result c.loop-component-test.true c.loop-component.invariant
    (subst IsComponent c.component-item.is c.show_component.ensures)

pub returns : goal.returns
returns c =
    let items = c.args.components.now in
    let last = c.loop-component.component-index in
    All-same IsComponent items (take last items) (sym (take_all last items c.loop-component-test.false)) c.loop-component.invariant
