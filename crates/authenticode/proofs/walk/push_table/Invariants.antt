use Rattle.std.proofs.Common.{length}
use Rattle.authenticode.specs.Carried.{GivesEntry}
use Rattle.authenticode.proofs.StepLemmas.{Collects}
use Rattle.authenticode.proofs.walk.push_table.Given as goal

abbrev pub invariant-loop-left : goal.invariant-loop-left
invariant-loop-left l = Collects GivesEntry l.table l.left l.initial.digests.items l.digests.items

abbrev pub decreases-loop-left : goal.decreases-loop-left
decreases-loop-left l = length l.left
