use Rattle.authenticode.specs.Carried.{GivesEntry}
use Rattle.authenticode.proofs.StepLemmas.{Collects-more}
use Rattle.authenticode.proofs.walk.push_table.Goals as goal

pub loop-left-preserved : goal.loop-left-preserved
loop-left-preserved c = Collects-more GivesEntry _ c.loop-left.left.now _ _ _ _ c.loop-left.invariant c.in_ok-left.ensures.ok
