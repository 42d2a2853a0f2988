use Rattle.std.proofs.Common.{◌≡◌}
use Rattle.cli_commands.specs.Faults.{IsAddingRefusal}
use Rattle.cli_output.specs.declared.ending.WorkOutcome.TheVariants.{Done}
use Rattle.cli_opening.proofs.EndingLemmas.{both_of, rows_apart}
use Rattle.cli_files.proofs.ServingLemmas.{adding_apart}
use Rattle.cli_files.proofs.WorkLemmas.{silent_of}
use Rattle.cli_files.proofs.working.AddingWork.work.Goals as goal

pub returns-clause-did : goal.returns-clause-did
returns-clause-did g c = (
  (c.add-work.ensures.stopped, c.add-work.ensures.spares, c.add-work.ensures.uncommitted, c.add-work.ensures.same, c.add-work.ensures.clean),
  silent_of g.W.Write.contents _ _ c.add-work.result c.add-work.ensures.unwritten,
  λ clean. (c.add-work.ensures.told clean, c.add-work.ensures.beginning clean, c.add-work.ensures.refused clean),
)

pub returns-clause-left : goal.returns-clause-left
returns-clause-left g c = both_of (λ outcome. outcome ≡ Done) _ c.add-work.result c.add-work.ensures.done c.add-work.ensures.flushed

pub returns-clause-apart : goal.returns-clause-apart
returns-clause-apart g c = rows_apart IsAddingRefusal adding_apart c.add-work.result c.add-work.ensures.named
