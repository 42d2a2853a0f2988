-- The refusal of each fault of an import.
use Rattle.std.specs.Prelude.{ℕ, Option, Some, None}
use Rattle.base.specs.declared.refusal.Refusal.{Refusal}
use Rattle.base.specs.declared.refusal.Refusal.TheVariants as refusal
use Rattle.siglist.specs.ListsFaults as lists
use Rattle.desk_inputs.specs.declared.imports.fault.ImportFault.{ImportFault}
use Rattle.desk_inputs.specs.declared.imports.fault.ImportFault.TheVariants as fault

-- own: the row of each fault
abbrev pub refusal_of : ImportFault → Refusal
refusal_of (fault.Lists why) = lists.refusal_of why
refusal_of (fault.Record number) = refusal.CsvRow
refusal_of (fault.Line number) = refusal.SbatRow
refusal_of fault.TooLong = refusal.TooLong
refusal_of fault.NoMemory = refusal.NoMemory

-- the offset of a list, or the number of a record or of a line
abbrev pub place_of : ImportFault → Option ℕ
place_of (fault.Lists why) = Some (lists.place_of why)
place_of (fault.Record number) = Some number
place_of (fault.Line number) = Some number
place_of fault.TooLong = None
place_of fault.NoMemory = None
