-- The refusal of each fault of an image.
use Rattle.std.specs.Prelude.{ℕ, Option, None}
use Rattle.base.specs.declared.refusal.Refusal.{Refusal}
use Rattle.base.specs.declared.refusal.Refusal.TheVariants as refusal
use Rattle.pe_image.specs.Faults as layout
use Rattle.authenticode.specs.Faults as carried
use Rattle.sbat.specs.Refusals as sbat
use Rattle.desk_inputs.specs.declared.part.PartFault.{PartFault}
use Rattle.desk_inputs.specs.declared.part.PartFault.TheVariants as part
use Rattle.desk_inputs.specs.declared.fault.FactsFault.{FactsFault}
use Rattle.desk_inputs.specs.declared.fault.FactsFault.TheVariants.{Carried, Components, Layout, NoMemory, Read}

-- own: the row of each fault
abbrev pub refusal_of : FactsFault → Refusal
refusal_of (Layout fault) = layout.refusal_of fault
refusal_of Read = refusal.Read
refusal_of (Carried fault) = carried.refusal_of fault
refusal_of (Components fault) = sbat.refusal_of fault
refusal_of NoMemory = refusal.NoMemory

-- own: a failed read after the headers is the fault Read
abbrev pub read_failed : FactsFault
read_failed = Read

-- own: the fault of an image for a fault of a part
abbrev pub of_part : PartFault → FactsFault
of_part part.Read = Read
of_part part.NoMemory = NoMemory

-- own: the line of SBAT text
abbrev pub place_of : FactsFault → Option ℕ
place_of (Components fault) = sbat.place_of fault
place_of _ = None
