-- The section `.sbat` and its text (shim's SBAT.md).
use Rattle.std.specs.Prelude.{ℕ, ◌+◌, ◌==◌, Bool, nat_lt, if◌then◌else◌, List, [], ◌∷◌, ◌++◌, codes, find, count_by, min, Option, Some, None}
use Rattle.std.specs.Str.{bytes_eq}
use Rattle.pe_image.specs.declared.header.Header.{Header}
use Rattle.pe_image.specs.Spans.{span}
use Rattle.pe_image.specs.declared.span.Span.{Span}

-- whether a section has the name `.sbat`, 0, 0, 0
abbrev pub is_sbat : Header → Bool
is_sbat h = bytes_eq h.name (codes ".sbat" ++ 0 ∷ 0 ∷ 0 ∷ [])

-- own: the number of bytes of a section that are text: SizeOfRawData, or VirtualSize if that is
-- given and less
abbrev pub text_size : Header → ℕ
text_size h = if h.virtual_size == 0 then h.size_of_raw_data else min h.virtual_size h.size_of_raw_data

-- the same, where there may be no section
abbrev pub size_of_text : Option Header → ℕ
size_of_text None = 0
size_of_text (Some h) = text_size h

-- own: the span of a section's text; a section without a byte of text counts as none
abbrev pub text_at : Option Header → Option Span
text_at None = None
text_at (Some h) =
    if nat_lt 0 (text_size h)
    then Some (span h.pointer_to_raw_data (h.pointer_to_raw_data + text_size h))
    else None

-- the section `.sbat`
unfoldable pub sbat_section : List Header → Option Header
sbat_section hs = find is_sbat hs

-- the number of sections with that name
unfoldable pub sbat_count : List Header → ℕ
sbat_count hs = count_by is_sbat hs
