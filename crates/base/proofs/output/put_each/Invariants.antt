use Rattle.std.proofs.Common.{take}
use Rattle.std.specs.Io.KnownBytes.{Appends}
use Rattle.base.specs.Output.{joined}
use Rattle.base.proofs.output.put_each.Given as goal

abbrev pub invariant-loop-slice : goal.invariant-loop-slice
invariant-loop-slice g l =
    Appends (g.W.Write.contents l.fn.writer) (g.W.Write.contents l.writer) (joined (take l.slice-index l.slices))
