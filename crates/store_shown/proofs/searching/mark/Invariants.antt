use Rattle.std.proofs.Common.{take}
use Rattle.store_shown.specs.Searching.{AreMarked, KeepsMarks}
use Rattle.store_shown.proofs.searching.mark.Given as goal

abbrev pub invariant-loop-number : goal.invariant-loop-number
invariant-loop-number l = AreMarked l.marks.items (take l.number-index l.numbers) × KeepsMarks l.fn.marks.items l.marks.items
