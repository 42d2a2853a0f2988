-- The faults of a subcommand over a desk's file.
use Rattle.std.specs.Prelude.{◌≡◌, ◌⊎◌, ℕ, List}
use Rattle.cli_output.specs.Faults.{IsRow, IsUnreadRefusal, of_facts}
use Rattle.cli_output.specs.declared.fault.Fault.{Fault}
use Rattle.desk_inputs.specs.ImageFacts.{IsFirstFault}
use Rattle.desk_inputs.specs.declared.fault.FactsFault.{FactsFault}
use Rattle.cli_commands.specs.Faults.{IsWritingRefusal}

-- an image has no facts: the row of its first fault, with the line of its SBAT text if that is
-- wrong. It is in memory, so no read fails.
pub record HasFault (image : List ℕ) (fault : Fault) : Type 0 where
  pub why : FactsFault
  pub first : IsFirstFault image 0 0 why
  pub row : fault ≡ of_facts why

-- the same of some image
abbrev pub IsImageFault : Fault → Type 0
IsImageFault fault = (image : List ℕ) × HasFault image fault

-- own: an image isn't judged: its file isn't read, it has no facts, or the open desk's answer isn't
-- written
abbrev pub IsJudgingFault : Fault → Type 0
IsJudgingFault fault = (IsRow IsUnreadRefusal fault ⊎ IsImageFault fault) ⊎ IsRow IsWritingRefusal fault
