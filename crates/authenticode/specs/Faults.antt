-- Reasons why a certificate table is refused.
use Rattle.base.specs.declared.refusal.Refusal.{Refusal}
use Rattle.base.specs.declared.refusal.Refusal.TheVariants as refusal
use Rattle.authenticode.specs.declared.fault.CarriedFault.{CarriedFault}
use Rattle.authenticode.specs.declared.fault.CarriedFault.TheVariants as fault

-- own: its row in the table of refusals
abbrev pub refusal_of : CarriedFault → Refusal
refusal_of fault.Table = refusal.Table
refusal_of fault.Der = refusal.Der
refusal_of fault.TooLong = refusal.TooLong
refusal_of fault.NoMemory = refusal.NoMemory

-- own: a missing DER element or certificate is the fault Der
abbrev pub not_der : CarriedFault
not_der = fault.Der
