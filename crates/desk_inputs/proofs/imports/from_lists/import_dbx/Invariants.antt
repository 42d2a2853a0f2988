use Rattle.desk_inputs.proofs.ReadingLemmas.{Reading}
use Rattle.desk_inputs.proofs.imports.from_lists.import_dbx.Given as goal

abbrev pub invariant-loop-list : goal.invariant-loop-list
invariant-loop-list l = Reading l.bytes l.list-iterator l.gathered
