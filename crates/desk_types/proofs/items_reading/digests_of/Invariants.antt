use Rattle.std.proofs.Common.{length}
use Rattle.hex.specs.Hex.{encode_lower}
use Rattle.desk_types.specs.Commands.{IsDigest}
use Rattle.desk_types.proofs.ItemReadingLemmas.{Reads}
use Rattle.desk_types.proofs.items_reading.digests_of.Given as goal

abbrev pub invariant-loop-item : goal.invariant-loop-item
invariant-loop-item l = Reads IsDigest encode_lower l.fn.text l.digests.items l.rest

abbrev pub decreases-loop-item : goal.decreases-loop-item
decreases-loop-item l = length l.rest
