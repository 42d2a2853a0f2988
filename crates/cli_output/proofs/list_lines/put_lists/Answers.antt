use Rattle.base.proofs.OutputLemmas.{OnErr-fact}
use Rattle.cli_output.specs.Listings.{list_line}
use Rattle.cli_output.proofs.EachLemmas.{Lined-begins, Lined-next, Lined-stops}
use Rattle.cli_output.proofs.list_lines.put_lists.Goals as goal

pub loop-list-init : goal.loop-list-init
loop-list-init g c = Lined-begins list_line _ _ _ c.into_iter-list-iterator.ensures.into_iter_gives

pub loop-list-preserved : goal.loop-list-preserved
loop-list-preserved g c = Lined-next list_line _ _ _ _ _ _ _ c.loop-list.invariant c.in-Some.ensures.steps c.in_ok-put_list.ensures.ok

pub returns-in_err-put_list-clause-err : goal.returns-in_err-put_list-clause-err
returns-in_err-put_list-clause-err g c = OnErr-fact _ _ (Lined-stops list_line _ _ _ _ _ _ _ c.loop-list.invariant c.in-Some.ensures.steps c.in_err-put_list.ensures.err)
