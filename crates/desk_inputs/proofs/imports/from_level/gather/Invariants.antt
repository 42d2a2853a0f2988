use Rattle.desk_inputs.specs.imports.FromLevel.{level_items}
use Rattle.desk_inputs.proofs.LevelLemmas.{Naming}
use Rattle.desk_inputs.proofs.imports.from_level.gather.Given as goal

abbrev pub invariant-loop-name : goal.invariant-loop-name
invariant-loop-name l = Naming (level_items l.level) l.name-iterator l.gathered
