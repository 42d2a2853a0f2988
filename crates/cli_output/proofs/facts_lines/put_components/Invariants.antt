use Rattle.std.proofs.Common.{drop}
use Rattle.cli_output.specs.Listings.{component_line}
use Rattle.cli_output.proofs.EachLemmas.{Lined}
use Rattle.cli_output.proofs.facts_lines.put_components.Given as goal

abbrev pub invariant-loop-component : goal.invariant-loop-component
invariant-loop-component g l = Lined component_line l.components (drop l.component-index l.components) (g.W.Write.contents l.fn.writer) (g.W.Write.contents l.writer)
