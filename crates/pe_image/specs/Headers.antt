-- The section table (PE/COFF, "Section Table"): 40 bytes a section.
use Rattle.std.specs.Prelude.{ℕ, zero, suc, ◌+◌, Bool, nat_lt, List, [], ◌∷◌, slice_range, filter, map}
use Rattle.base.specs.Numbers.{u32_at}
use Rattle.pe_image.specs.declared.header.Header.{Header}
use Rattle.pe_image.specs.Spans.{span}
use Rattle.pe_image.specs.declared.span.Span.{Span}

-- the section header at an offset: Name, VirtualSize, SizeOfRawData, PointerToRawData
unfoldable pub header_at : List ℕ → ℕ → Header
header_at f at = record {
  name = slice_range f at (at + 8);
  virtual_size = u32_at f (at + 8);
  size_of_raw_data = u32_at f (at + 16);
  pointer_to_raw_data = u32_at f (at + 20);
}

-- this many section headers, one after another from an offset on
unfoldable pub headers_from : List ℕ → ℕ → ℕ → List Header
headers_from f at zero = []
headers_from f at (suc n) = header_at f at ∷ headers_from f (at + 40) n

-- a raw section is one with SizeOfRawData above 0
abbrev pub is_raw : Header → Bool
is_raw h = nat_lt 0 h.size_of_raw_data

-- the raw data of a section: SizeOfRawData bytes from PointerToRawData on
abbrev pub span_of : Header → Span
span_of h = span h.pointer_to_raw_data (h.pointer_to_raw_data + h.size_of_raw_data)

-- the spans of the raw sections, in the order of their headers
unfoldable pub raw_of : List Header → List Span
raw_of hs = map span_of (filter is_raw hs)
