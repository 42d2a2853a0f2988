use Rattle.sbat.proofs.GenerationLemmas.{IsLevel-empty}
use Rattle.sbat.proofs.level.Level.new.Goals as goal

pub invariant_of-result : goal.invariant_of-result
invariant_of-result c = rw c.new.ensures.empty (IsLevel-empty c.args.stamp c.value-number.ensures.range)
