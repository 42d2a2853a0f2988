use Rattle.cli_output.specs.Listings.{list_line}
use Rattle.cli_output.proofs.EachLemmas.{Lined}
use Rattle.cli_output.proofs.list_lines.put_lists.Given as goal

abbrev pub invariant-loop-list : goal.invariant-loop-list
invariant-loop-list g l = Lined list_line l.fn.row l.list-iterator (g.W.Write.contents l.fn.writer) (g.W.Write.contents l.writer)
