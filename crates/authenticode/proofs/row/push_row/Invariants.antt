use Rattle.std.proofs.Common.{length}
use Rattle.authenticode.specs.Certificates.{GivesCertificate}
use Rattle.authenticode.proofs.StepLemmas.{Collects}
use Rattle.authenticode.proofs.row.push_row.Given as goal

abbrev pub invariant-loop-left : goal.invariant-loop-left
invariant-loop-left l = Collects GivesCertificate l.row l.left l.initial.digests.items l.digests.items

abbrev pub decreases-loop-left : goal.decreases-loop-left
decreases-loop-left l = length l.left
