-- The exit status of a run.
use Rattle.std.specs.Prelude.{ℕ, Result, Ok, Err}
use Rattle.cli_output.specs.Endings.{status_of_ending}
use Rattle.cli_output.specs.Statuses.{status_of}
use Rattle.cli_output.specs.declared.ending.Ending.{Ending}
use Rattle.cli_arguments.specs.declared.values.stop.Stop.{Stop}
use Rattle.cli_arguments.specs.declared.values.stop.Stop.TheVariants as stops

-- own: 2 for a word that isn't in its form, or the fault's status
abbrev pub status_of_stop : Stop → ℕ
status_of_stop (stops.Word word) = 2
status_of_stop (stops.Fault fault) = status_of fault.refusal

-- the status of a run that ended so
abbrev pub status_of_run : Result Ending Stop → ℕ
status_of_run (Ok ending) = status_of_ending ending
status_of_run (Err why) = status_of_stop why
