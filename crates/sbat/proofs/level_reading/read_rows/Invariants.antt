use Rattle.sbat.proofs.LevelLemmas.{Raising}
use Rattle.sbat.proofs.level_reading.read_rows.Given as goal

abbrev pub invariant-loop-line : goal.invariant-loop-line
invariant-loop-line l = Raising l.level l.fn.stamp l.line-iterator l.fn.lines
