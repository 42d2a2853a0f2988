use Rattle.base.proofs.OutputLemmas.{OnErr-fact}
use Rattle.cli_output.specs.Listings.{range_line}
use Rattle.cli_output.proofs.EachLemmas.{Lined-begins, Lined-next, Lined-stops}
use Rattle.cli_output.proofs.range_lines.put_ranges.Goals as goal

pub loop-span-init : goal.loop-span-init
loop-span-init g c = Lined-begins range_line _ _ _ c.into_iter-span-iterator.ensures.into_iter_gives

pub loop-span-preserved : goal.loop-span-preserved
loop-span-preserved g c = Lined-next range_line _ _ _ _ _ _ _ c.loop-span.invariant c.in-Some.ensures.steps c.in_ok-put_range.ensures.ok

pub returns-in_err-put_range-clause-err : goal.returns-in_err-put_range-clause-err
returns-in_err-put_range-clause-err g c = OnErr-fact _ _ (Lined-stops range_line _ _ _ _ _ _ _ c.loop-span.invariant c.in-Some.ensures.steps c.in_err-put_range.ensures.err)
