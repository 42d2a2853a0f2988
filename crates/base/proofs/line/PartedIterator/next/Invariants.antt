use Rattle.std.proofs.Common.{◌≡◌, ◌+◌, ◌<◌, ◌^◌, length}
use Rattle.base.specs.Lines.{lines_of, numbered_from}
use Rattle.base.proofs.line.PartedIterator.next.Given as goal

abbrev pub invariant-loop-self : goal.invariant-loop-self
invariant-loop-self l = (numbered_from l.self-inside.number (lines_of l.self-inside.rest.now) ≡ l.fn.self)
    × (l.self-inside.number + length l.self-inside.rest.now < 2 ^ 64)

abbrev pub decreases-loop-self : goal.decreases-loop-self
decreases-loop-self l = length l.self-inside.rest.now
