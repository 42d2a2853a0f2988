-- The end of a subcommand over a desk's file, and its lines on standard error.
use Rattle.std.specs.Prelude.{ℕ, List, [], Option, None, Some, Result, Ok, Err}
use Rattle.base.specs.Output.{AppendsBeginning}
use Rattle.base.specs.declared.refusal.Refusal.{Refusal}
use Rattle.cli_output.specs.FaultLines.{fault_line}
use Rattle.cli_output.specs.Faults.{row_of}
use Rattle.cli_output.specs.Statuses.{status_of}
use Rattle.cli_output.specs.declared.fault.Fault.{Fault}
use Rattle.cli_output.specs.declared.ending.Ending.{Ending}
use Rattle.cli_output.specs.declared.ending.WorkOutcome.{WorkOutcome}
use Rattle.cli_output.specs.declared.ending.WorkOutcome.TheVariants.{Done, Refused}

-- own: if no desk is opened, that refusal is the end, and nothing is closed
abbrev pub unopened : Refusal → Ending
unopened refusal = record { work = Err (row_of refusal); closing = None }

-- own: 0 for work that is done, 1 for an image that isn't allowed or a Confirm that would bar an
-- allowed one, or the fault's status
abbrev pub status_of_work : Result WorkOutcome Fault → ℕ
status_of_work (Ok Done) = 0
status_of_work (Ok Refused) = 1
status_of_work (Err fault) = status_of fault.refusal

-- own: a desk that couldn't be closed decides the status, whatever the outcome of the work
abbrev pub status_after : ℕ → Option Fault → ℕ
status_after status None = status
status_after status (Some fault) = status_of fault.refusal

-- own: the status of a subcommand over a desk, by its work and its close
abbrev pub status_of_ending : Ending → ℕ
status_of_ending ending = status_after (status_of_work ending.work) ending.closing

-- the line of the fault that stopped the work
abbrev pub work_line : Result WorkOutcome Fault → List ℕ
work_line (Ok outcome) = []
work_line (Err fault) = fault_line fault.refusal fault.place

-- the line of a desk that couldn't be closed
abbrev pub closing_line : Option Fault → List ℕ
closing_line None = []
closing_line (Some fault) = fault_line fault.refusal fault.place

-- one line is written, or a prefix of it, and then the other
abbrev pub WritesInTurn : Option (List ℕ) → Option (List ℕ) → List ℕ → List ℕ → Type 0
WritesInTurn old new first second =
    (between : Option (List ℕ)) × AppendsBeginning old between first × AppendsBeginning between new second

-- own: the line of the fault that stopped the work, and then the line of a failed close
abbrev pub TellsEnding : Option (List ℕ) → Option (List ℕ) → Ending → Type 0
TellsEnding old new ending = WritesInTurn old new (work_line ending.work) (closing_line ending.closing)
