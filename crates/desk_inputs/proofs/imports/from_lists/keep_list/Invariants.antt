use Rattle.desk_inputs.specs.imports.FromLists.{list_items}
use Rattle.desk_inputs.proofs.ReadingLemmas.{Keeping}
use Rattle.desk_inputs.proofs.imports.from_lists.keep_list.Given as goal

abbrev pub invariant-loop-entry : goal.invariant-loop-entry
invariant-loop-entry l = Keeping l.kind (list_items l.list.list) l.entry-iterator l.fn.gathered l.gathered
