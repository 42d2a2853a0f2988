use Rattle.cli_output.specs.Listings.{range_line}
use Rattle.cli_output.proofs.EachLemmas.{Lined}
use Rattle.cli_output.proofs.range_lines.put_ranges.Given as goal

abbrev pub invariant-loop-span : goal.invariant-loop-span
invariant-loop-span g l = Lined range_line l.fn.spans l.span-iterator (g.W.Write.contents l.fn.writer) (g.W.Write.contents l.writer)
