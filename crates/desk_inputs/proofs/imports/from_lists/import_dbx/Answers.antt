use Rattle.std.proofs.Common.{rules}
use Rattle.desk_inputs.proofs.ReadingLemmas.{Reading-begins, Reading-next}
use Rattle.desk_inputs.proofs.imports.from_lists.import_dbx.Goals as goal

pub loop-list-init : goal.loop-list-init
loop-list-init c = Reading-begins _ _ _ _ c.in-Ok.ensures.found c.into_iter-list-iterator.ensures.into_iter_gives c.new-gathered.ensures

pub loop-list-preserved : goal.loop-list-preserved
loop-list-preserved c =
    Reading-next _ _ _ c.in-Some.list _ _ c.loop-list.invariant c.in-Some.ensures.steps (search rules)

pub returns-in-Some-into_command-clause-exact : goal.returns-in-Some-into_command-clause-exact
returns-in-Some-into_command-clause-exact c = search rules
