-- Parts of a file.
use Rattle.std.specs.Prelude.{ℕ, List, [], Option, Some, None, slice_range, ⊤}
use Rattle.pe_image.specs.Sources.{HaveRisen}
use Rattle.pe_image.specs.declared.span.Span.{Span}
use Rattle.desk_inputs.specs.declared.part.PartFault.{PartFault}
use Rattle.desk_inputs.specs.declared.part.PartFault.TheVariants as fault

-- the bytes of a span, or none if there is no span
abbrev pub part_of : List ℕ → Option Span → List ℕ
part_of f None = []
part_of f (Some p) = slice_range f p.from p.to

-- own: a read that failed is the fault Read
abbrev pub read_failed : PartFault
read_failed = fault.Read

-- why a part isn't read; for Read, the count of failures rose or was already at its maximum
abbrev pub IsPartFault : ℕ → ℕ → PartFault → Type 0
IsPartFault before after fault.Read = HaveRisen before after
IsPartFault before after fault.NoMemory = ⊤
