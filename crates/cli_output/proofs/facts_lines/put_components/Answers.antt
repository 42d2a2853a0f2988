use Rattle.std.proofs.Common.{arith}
use Rattle.base.proofs.OutputLemmas.{OnErr-fact}
use Rattle.cli_output.specs.Listings.{component_line}
use Rattle.cli_output.proofs.EachLemmas.{Lined-next, Lined-stops, drop_next}
use Rattle.cli_output.proofs.facts_lines.put_components.Goals as goal

pub loop-component-preserved : goal.loop-component-preserved
loop-component-preserved g c =
    Lined-next component_line _ _ _ _ _ _ _ c.loop-component.invariant (drop_next c.args.components.now c.loop-component.component-index c.component-item.result (omega arith) c.component-item.is) c.in_ok-put_component.ensures.ok

pub returns-in_err-put_component-clause-err : goal.returns-in_err-put_component-clause-err
returns-in_err-put_component-clause-err g c =
    OnErr-fact _ _ (Lined-stops component_line _ _ _ _ _ _ _ c.loop-component.invariant (drop_next c.args.components.now c.loop-component.component-index c.component-item.result (omega arith) c.component-item.is) c.in_err-put_component.ensures.err)
