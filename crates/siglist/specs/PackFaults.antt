-- Reasons why a pack stops, and their refusals.
use Rattle.std.specs.Prelude.{ℕ, Option, Some, None}
use Rattle.base.specs.declared.refusal.Refusal.{Refusal}
use Rattle.base.specs.declared.refusal.Refusal.TheVariants as refusal
use Rattle.base.specs.declared.input.InputFault.{InputFault}
use Rattle.base.specs.declared.input.InputFault.TheVariants as input
use Rattle.siglist.specs.declared.fault.PackFault.{PackFault}
use Rattle.siglist.specs.declared.fault.PackFault.TheVariants as fault

-- own: its row in the table of refusals
abbrev pub refusal_of : PackFault → Refusal
refusal_of fault.TooLong = refusal.TooLong
refusal_of fault.Read = refusal.Read
refusal_of fault.Write = refusal.Write
refusal_of (fault.Line line) = refusal.Line
refusal_of fault.NoMemory = refusal.NoMemory

-- own: its place: the number of the line that was refused
abbrev pub place_of : PackFault → Option ℕ
place_of fault.TooLong = None
place_of fault.Read = None
place_of fault.Write = None
place_of (fault.Line line) = Some line
place_of fault.NoMemory = None

-- own: the fault of `pack` for a fault of its input
abbrev pub fault_of : InputFault → PackFault
fault_of input.TooLong = fault.TooLong
fault_of input.Read = fault.Read
fault_of input.NoMemory = fault.NoMemory

-- own: a write that failed is the fault Write
abbrev pub write_failed : PackFault
write_failed = fault.Write
