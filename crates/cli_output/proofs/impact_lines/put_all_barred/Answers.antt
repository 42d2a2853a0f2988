use Rattle.std.proofs.Common.{arith}
use Rattle.base.proofs.OutputLemmas.{OnErr-fact}
use Rattle.cli_output.specs.ImpactLines.{barred_line}
use Rattle.cli_output.proofs.EachLemmas.{Lined-next, Lined-stops, drop_next}
use Rattle.cli_output.proofs.impact_lines.put_all_barred.Goals as goal

pub loop-barred-preserved : goal.loop-barred-preserved
loop-barred-preserved g c =
    Lined-next barred_line _ _ _ _ _ _ _ c.loop-barred.invariant (drop_next c.args.bars.now c.loop-barred.barred-index c.barred-item.result (omega arith) c.barred-item.is) c.in_ok-put_barred.ensures.ok

pub returns-in_err-put_barred-clause-err : goal.returns-in_err-put_barred-clause-err
returns-in_err-put_barred-clause-err g c =
    OnErr-fact _ _ (Lined-stops barred_line _ _ _ _ _ _ _ c.loop-barred.invariant (drop_next c.args.bars.now c.loop-barred.barred-index c.barred-item.result (omega arith) c.barred-item.is) c.in_err-put_barred.ensures.err)
