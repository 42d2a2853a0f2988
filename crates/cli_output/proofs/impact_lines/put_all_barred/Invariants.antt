use Rattle.std.proofs.Common.{drop}
use Rattle.cli_output.specs.ImpactLines.{barred_line}
use Rattle.cli_output.proofs.EachLemmas.{Lined}
use Rattle.cli_output.proofs.impact_lines.put_all_barred.Given as goal

abbrev pub invariant-loop-barred : goal.invariant-loop-barred
invariant-loop-barred g l = Lined barred_line l.bars (drop l.barred-index l.bars) (g.W.Write.contents l.fn.writer) (g.W.Write.contents l.writer)
