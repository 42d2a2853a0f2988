use Rattle.sbat.specs.Texts.{rows_of}
use Rattle.sbat.proofs.RowLemmas.{Reading}
use Rattle.sbat.proofs.image.components.Given as goal

abbrev pub invariant-loop-line : goal.invariant-loop-line
invariant-loop-line l = Reading l.found.items l.line-iterator (rows_of l.text)
