-- Rows of the table of refusals with their places.
use Rattle.std.specs.Prelude.{◌≡◌, ◌⊎◌, None, Some}
use Rattle.base.specs.Inputs as input
use Rattle.base.specs.declared.input.InputFault.{InputFault}
use Rattle.base.specs.declared.refusal.Refusal.{Refusal}
use Rattle.base.specs.declared.refusal.Refusal.TheVariants as refusals
use Rattle.cli_output.specs.declared.fault.Fault.{Fault}
use Rattle.desk_inputs.specs.Faults as facts
use Rattle.desk_inputs.specs.declared.fault.FactsFault.{FactsFault}
use Rattle.pe_image.specs.Faults as layout
use Rattle.pe_image.specs.Pieces as pieces
use Rattle.pe_image.specs.declared.fault.LayoutFault.{LayoutFault}
use Rattle.pe_image.specs.declared.pieces.PiecesFault.{PiecesFault}
use Rattle.siglist.specs.ListsFaults as lists
use Rattle.siglist.specs.PackFaults as pack
use Rattle.siglist.specs.declared.fault.ListsFault.{ListsFault}
use Rattle.siglist.specs.declared.fault.PackFault.{PackFault}

-- own: a row without a place
abbrev pub row_of : Refusal → Fault
row_of refusal = record { refusal = refusal; place = None }

-- a row without a place, whose refusal is one of these
abbrev pub IsRow : (Refusal → Type 0) → Fault → Type 0
IsRow P fault = (fault.place ≡ None) × P fault.refusal

-- own: a file can't be opened, or memory was refused
abbrev pub IsFileRefusal : Refusal → Type 0
IsFileRefusal refusal = (refusal ≡ refusals.NoMemory) ⊎ (refusal ≡ refusals.File)

-- own: a file isn't read to its end: it can't be opened, memory was refused, or a read failed
abbrev pub IsUnreadRefusal : Refusal → Type 0
IsUnreadRefusal refusal = IsFileRefusal refusal ⊎ (refusal ≡ refusals.Read)

-- own: the row for a text that isn't packed
abbrev pub of_pack : PackFault → Fault
of_pack fault = record { refusal = pack.refusal_of fault; place = pack.place_of fault }

-- own: the row for bytes that aren't lists
abbrev pub of_lists : ListsFault → Fault
of_lists fault = record { refusal = lists.refusal_of fault; place = Some (lists.place_of fault) }

-- own: the row for an image without a layout
abbrev pub of_layout : LayoutFault → Fault
of_layout fault = row_of (layout.refusal_of fault)

-- own: the row for an image without facts
abbrev pub of_facts : FactsFault → Fault
of_facts fault = record { refusal = facts.refusal_of fault; place = facts.place_of fault }

-- own: the row for an input that isn't read
abbrev pub of_input : InputFault → Fault
of_input fault = row_of (input.refusal_of fault)

-- the row for an input that isn't read into pieces
abbrev pub of_pieces : PiecesFault → Fault
of_pieces fault = row_of (pieces.refusal_of fault)
