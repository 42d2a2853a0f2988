-- The refusal of each fault of an image.
use Rattle.base.specs.declared.refusal.Refusal.{Refusal}
use Rattle.base.specs.declared.refusal.Refusal.TheVariants as refusal
use Rattle.pe_image.specs.declared.fault.LayoutFault.{LayoutFault}
use Rattle.pe_image.specs.declared.fault.LayoutFault.TheVariants as fault

-- own: a fault is the refusal of its name
abbrev pub refusal_of : LayoutFault → Refusal
refusal_of fault.Short = refusal.Short
refusal_of fault.NoMz = refusal.NoMz
refusal_of fault.NoPe = refusal.NoPe
refusal_of fault.Magic = refusal.Magic
refusal_of fault.NotEfi = refusal.NotEfi
refusal_of fault.Headers = refusal.Headers
refusal_of fault.Sections = refusal.Sections
refusal_of fault.Overlap = refusal.Overlap
refusal_of fault.Table = refusal.Table
refusal_of fault.TwoSbat = refusal.TwoSbat
refusal_of fault.TooLong = refusal.TooLong
refusal_of fault.Read = refusal.Read

-- own: a read that failed is the fault Read
abbrev pub read_failed : LayoutFault
read_failed = fault.Read
