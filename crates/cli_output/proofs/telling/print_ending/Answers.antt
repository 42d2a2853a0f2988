use Rattle.cli_output.proofs.LineLemmas.{Appends-in_turn}
use Rattle.cli_output.proofs.telling.print_ending.Goals as goal

pub returns-in-Ok-clause-whole : goal.returns-in-Ok-clause-whole
returns-in-Ok-clause-whole g c =
    Appends-in_turn c.print_work-work.result.written c.in-Ok.field-0 c.print_closing-closing.result.written _ _ _ _ _ c.in-Ok.is c.print_work-work.ensures.whole
    c.print_closing-closing.ensures.whole
