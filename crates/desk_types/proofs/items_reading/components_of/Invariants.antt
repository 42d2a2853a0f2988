use Rattle.std.proofs.Common.{length}
use Rattle.desk_types.specs.Commands.{IsComponent}
use Rattle.desk_types.specs.Items.{component_text}
use Rattle.desk_types.proofs.ItemReadingLemmas.{Reads}
use Rattle.desk_types.proofs.items_reading.components_of.Given as goal

abbrev pub invariant-loop-item : goal.invariant-loop-item
invariant-loop-item l = Reads IsComponent component_text l.fn.text l.components.items l.rest

abbrev pub decreases-loop-item : goal.decreases-loop-item
decreases-loop-item l = length l.rest
