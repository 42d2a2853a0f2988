use Rattle.base.proofs.OutputLemmas.{AppendsBeginning-before, OnErr-after, OnErr-fact}
use Rattle.cli_output.proofs.range_lines.put_places.Goals as goal

pub returns-in_err-put_ranges-clause-err : goal.returns-in_err-put_ranges-clause-err
returns-in_err-put_ranges-clause-err g c =
    OnErr-fact _ _ (AppendsBeginning-before _ _ _ _ (rw c.ranges-2.ensures.exact at c.in_err-put_ranges.ensures.err))

pub returns-clause-err : goal.returns-clause-err
returns-clause-err g c =
    OnErr-after c.put_gap.result _ _ _ _ _ (rw c.ranges-2.ensures.exact at c.in_ok-put_ranges.ensures.ok) (rw c.gap.ensures at c.put_gap.ensures.err)
