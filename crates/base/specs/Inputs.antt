-- The refusals of reading an input.
use Rattle.base.specs.declared.input.InputFault.{InputFault}
use Rattle.base.specs.declared.input.InputFault.TheVariants as fault
use Rattle.base.specs.declared.refusal.Refusal.{Refusal}
use Rattle.base.specs.declared.refusal.Refusal.TheVariants as refusal

-- own: its row in the table of refusals
abbrev pub refusal_of : InputFault → Refusal
refusal_of fault.TooLong = refusal.TooLong
refusal_of fault.Read = refusal.Read
refusal_of fault.NoMemory = refusal.NoMemory
