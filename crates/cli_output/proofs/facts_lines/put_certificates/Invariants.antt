use Rattle.std.proofs.Common.{drop}
use Rattle.cli_output.specs.Listings.{certificate_line}
use Rattle.cli_output.proofs.EachLemmas.{Lined}
use Rattle.cli_output.proofs.facts_lines.put_certificates.Given as goal

abbrev pub invariant-loop-digest : goal.invariant-loop-digest
invariant-loop-digest g l = Lined certificate_line l.digests (drop l.digest-index l.digests) (g.W.Write.contents l.fn.writer) (g.W.Write.contents l.writer)
