use Rattle.std.proofs.Common.{◌≡◌}
use Rattle.cli_commands.specs.Faults.{IsAddingRefusal}
use Rattle.cli_opening.specs.Faults.{IsOpeningRefusal}
use Rattle.cli_output.specs.declared.ending.WorkOutcome.TheVariants.{Done}
use Rattle.cli_opening.proofs.EndingLemmas.{done_of, either_row, first_keeps, left_of, unopened_keeps}
use Rattle.cli_files.proofs.working.add_person.Goals as goal

pub returns-clause-added : goal.returns-clause-added
returns-clause-added g c = unopened_keeps g.W.Write.contents _ _ c.on_desk.ensures.did

pub returns-clause-done : goal.returns-clause-done
returns-clause-done g c = done_of (λ outcome. outcome ≡ Done) _ c.on_desk.result.work c.on_desk.ensures.left

pub returns-clause-flushed : goal.returns-clause-flushed
returns-clause-flushed g c = left_of (λ outcome. outcome ≡ Done) _ c.on_desk.result.work c.on_desk.ensures.left

pub returns-clause-named : goal.returns-clause-named
returns-clause-named g c = either_row IsOpeningRefusal IsAddingRefusal c.on_desk.result.work c.on_desk.ensures.named

pub returns-clause-first : goal.returns-clause-first
returns-clause-first g c = first_keeps g.W.Write.contents _ _ _ c.on_desk.result.work c.on_desk.ensures.first
