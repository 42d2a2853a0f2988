use Rattle.std.proofs.Common.{◌≤◌, ◌-◌, length}
use Rattle.siglist.proofs.RowLemmas.{SpeltTo}
use Rattle.siglist.proofs.lists_reading.lists.Given as goal

abbrev pub invariant-loop-offset : goal.invariant-loop-offset
invariant-loop-offset l = (l.offset ≤ length l.bytes) × SpeltTo l.bytes l.offset

abbrev pub decreases-loop-offset : goal.decreases-loop-offset
decreases-loop-offset l = length l.bytes - l.offset
