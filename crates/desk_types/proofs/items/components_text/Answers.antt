use Rattle.std.proofs.Common.{string_bytes, rules}
use Rattle.desk_types.specs.Items.{component_text}
use Rattle.desk_types.proofs.ItemLemmas.{listed}
use Rattle.desk_types.proofs.items.components_text.Goals as goal

pub returns : goal.returns
returns c =
    listed component_text c.args.components.now c.in-Some.first.now c.in-Some.rest.now (string_bytes c.loop-component.text) (string_bytes c.in_ok-text.text)
    c.loop-component.component-index (search rules) c.in_ok-text.ensures c.loop-component.invariant c.loop-component-test.false
