use Rattle.cli_output.proofs.LineLemmas.{AppendsBeginning-either}
use Rattle.cli_output.proofs.printing.print_fault.Goals as goal

pub returns-clause-out : goal.returns-clause-out
returns-clause-out g c = AppendsBeginning-either _ _ _ _ c.put_fault-written.ensures.ok c.put_fault-written.ensures.err
