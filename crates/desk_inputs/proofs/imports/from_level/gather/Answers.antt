use Rattle.std.proofs.Common.{◌∙◌, rules}
use Rattle.desk_inputs.proofs.LevelLemmas.{Naming-begins, Naming-next}
use Rattle.desk_inputs.proofs.imports.from_level.gather.Goals as goal

pub loop-name-init : goal.loop-name-init
loop-name-init c =
    Naming-begins _ _ _ c.iter-name-items.ensures.form (c.into_iter-name-iterator.ensures.into_iter_gives ∙ c.iter-name-items.ensures.exact) c.new-gathered.ensures

pub loop-name-preserved : goal.loop-name-preserved
loop-name-preserved c =
    Naming-next _ _ _ (c.in-Some.name.now, c.in-Some.generation) _ _ _ c.loop-name.invariant c.in-Some.ensures.steps c.in-Ok.ensures (search rules)
