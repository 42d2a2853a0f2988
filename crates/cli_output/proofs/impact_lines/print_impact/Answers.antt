use Rattle.base.proofs.OutputLemmas.{AppendsBeginning-before, OnErr-after, OnErr-fact}
use Rattle.cli_output.proofs.impact_lines.print_impact.Goals as goal

pub returns-in_err-put_all_barred-clause-err : goal.returns-in_err-put_all_barred-clause-err
returns-in_err-put_all_barred-clause-err g c =
    let stopped = rw c.deref.ensures.value at c.in_err-put_all_barred.ensures.err in
    OnErr-fact _ _ (AppendsBeginning-before _ _ _ _ stopped)

pub returns-clause-err : goal.returns-clause-err
returns-clause-err g c =
    let bars = rw c.deref.ensures.value at c.in_ok-put_all_barred.ensures.ok in
    OnErr-after c.put_dbx.result _ _ _ _ _ bars c.put_dbx.ensures.err
