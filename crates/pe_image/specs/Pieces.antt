-- The refusals of reading into pieces.
use Rattle.base.specs.declared.refusal.Refusal.{Refusal}
use Rattle.base.specs.declared.refusal.Refusal.TheVariants as refusal
use Rattle.pe_image.specs.declared.pieces.PiecesFault.{PiecesFault}
use Rattle.pe_image.specs.declared.pieces.PiecesFault.TheVariants as fault

-- own: a fault is the refusal of its name
abbrev pub refusal_of : PiecesFault → Refusal
refusal_of fault.Read = refusal.Read
refusal_of fault.NoMemory = refusal.NoMemory
