use Rattle.std.proofs.Common.{◌≡◌}
use Rattle.cli_commands.specs.Faults.{IsWritingRefusal}
use Rattle.cli_output.specs.declared.ending.WorkOutcome.TheVariants.{Done}
use Rattle.cli_opening.proofs.EndingLemmas.{both_of, rows_apart}
use Rattle.cli_files.proofs.ServingLemmas.{writing_apart}
use Rattle.cli_files.proofs.working.ExportingWork.work.Goals as goal

pub returns-clause-did : goal.returns-clause-did
returns-clause-did g c = (
  (c.write_export-work.ensures.same, c.write_export-work.ensures.spares, c.write_export-work.ensures.clean),
  λ clean. (c.write_export-work.ensures.ok clean, c.write_export-work.ensures.beginning clean),
)

pub returns-clause-left : goal.returns-clause-left
returns-clause-left g c = both_of (λ outcome. outcome ≡ Done) _ c.write_export-work.result c.write_export-work.ensures.done c.write_export-work.ensures.flushed

pub returns-clause-apart : goal.returns-clause-apart
returns-clause-apart g c = rows_apart IsWritingRefusal writing_apart c.write_export-work.result c.write_export-work.ensures.named
