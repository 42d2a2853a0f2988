use Rattle.base.proofs.OutputLemmas.{AppendsBeginning-joined, OnErr-fact}
use Rattle.base.proofs.output.put_each.Goals as goal

pub returns-in_err-put-clause-err : goal.returns-in_err-put-clause-err
returns-in_err-put-clause-err g c =
    OnErr-fact _ _ (AppendsBeginning-joined _ _ _ _ _ _ c.loop-slice-test.true c.loop-slice.invariant c.in_err-put.ensures.err)
