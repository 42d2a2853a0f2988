use Rattle.std.proofs.Common.{◌++◌, ap}
use Rattle.std.specs.FinMap.{entries}
use Rattle.sbat.specs.Writing.{head_text}
use Rattle.sbat.proofs.WritingLemmas.{rows_text-lines}
use Rattle.sbat.proofs.laws.level_is_its_lines.Goals as goal

pub returns : goal.returns
returns c l = ap (λ lines. head_text l.stamp ++ lines) (rows_text-lines (entries l.generations))
