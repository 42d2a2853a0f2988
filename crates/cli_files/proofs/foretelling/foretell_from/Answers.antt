use Rattle.cli_commands.specs.Faults.{IsForetellingRefusal}
use Rattle.cli_opening.specs.Faults.{IsOpeningRefusal}
use Rattle.cli_opening.proofs.EndingLemmas.{either_row, first_keeps, unopened_keeps}
use Rattle.cli_files.proofs.foretelling.foretell_from.Goals as goal

pub returns-clause-foretold : goal.returns-clause-foretold
returns-clause-foretold g c = unopened_keeps g.W.Write.contents _ _ c.on_desk.ensures.did

pub returns-clause-named : goal.returns-clause-named
returns-clause-named g c = either_row IsOpeningRefusal IsForetellingRefusal c.on_desk.result.work c.on_desk.ensures.named

pub returns-clause-first : goal.returns-clause-first
returns-clause-first g c = first_keeps g.W.Write.contents _ _ _ c.on_desk.result.work c.on_desk.ensures.first
