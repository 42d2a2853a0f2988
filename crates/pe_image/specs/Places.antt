-- The layout of a file, and the ranges of it that are hashed.
use Rattle.std.specs.Prelude.{◌≡◌, ℕ, ◌+◌, ◌≤◌, if◌then◌else◌, List, [], ◌∷◌, ◌++◌, length, Option, Some, None, IfSome}
use Rattle.pe_image.specs.Spans.{span, nonempty, in_order, EndWithin, IsWithin, StandBetween}
use Rattle.pe_image.specs.Checks.{IsLaid}
use Rattle.pe_image.specs.Sbat.{text_at, sbat_section}
use Rattle.pe_image.specs.Image as image
use Rattle.pe_image.specs.Image.{checksum_offset, certificate_directory_offset, headers, size_of_headers, raw, has_certificate_directory, has_table, table_offset, table_size}
use Rattle.pe_image.specs.declared.span.Span.{Span}

-- the places of an image's parts
pub record Places : Type 0 where
  pub checksum : Span
  pub certificate_directory : Option Span
  pub headers_end : ℕ
  pub sections : List Span
  pub sum_of_bytes_hashed : ℕ
  pub image_end : ℕ
  pub length : ℕ
  pub gap : ℕ
  pub table : Option Span
  pub sbat : Option Span

-- the entry of the certificate table, where there is one ("Optional Header Data Directories")
abbrev pub certificate_directory_of : List ℕ → Option Span
certificate_directory_of f =
    if has_certificate_directory f
    then Some (span (certificate_directory_offset f) (certificate_directory_offset f + 8))
    else None

-- the certificate table, where there is one ("The Attribute Certificate Table")
abbrev pub table_of : List ℕ → Option Span
table_of f =
    if has_table f
    then Some (span (table_offset f) (table_offset f + table_size f))
    else None

-- the places of a file's parts
unfoldable pub places_of : List ℕ → Places
places_of f = record {
  checksum = span (checksum_offset f) (checksum_offset f + 4);
  certificate_directory = certificate_directory_of f;
  headers_end = size_of_headers f;
  sections = in_order (raw f);
  sum_of_bytes_hashed = image.sum_of_bytes_hashed f;
  image_end = image.image_end f;
  length = length f;
  gap = image.gap f;
  table = table_of f;
  sbat = text_at (sbat_section (headers f));
}

-- the headers without CheckSum and the entry ("Calculating the PE Image Hash", steps 3 to 7)
abbrev pub around : Span → Option Span → ℕ → List Span
around c None end = span 0 c.from ∷ span c.to end ∷ []
around c (Some e) end = span 0 c.from ∷ span c.to e.from ∷ span e.to end ∷ []

-- The hashed ranges (Authenticode, "Calculating the PE Image Hash"): the headers, the sections in
-- ascending order, and the bytes from SUM_OF_BYTES_HASHED up to the certificate table. own: if
-- there is a gap, they begin there too, and may repeat bytes of a section.
unfoldable pub spans_of : Places → List Span
spans_of p =
    nonempty (
    around p.checksum p.certificate_directory p.headers_end ++ p.sections
    ++ span p.sum_of_bytes_hashed p.image_end ∷ []
    )

-- where the hashed bytes end, for the certificate table and the length of the file
abbrev pub end_by : Option Span → ℕ → ℕ
end_by None n = n
end_by (Some t) n = t.from

-- p is the layout of f: f is accepted, its sections are in ascending order after the headers, no
-- two share a byte, and the hashed ranges, the table, the text of `.sbat` and the gap lie within
-- the file
pub record IsLayoutOf (f : List ℕ) (p : Places) : Type 0 where
  pub laid : IsLaid f
  pub places : p ≡ places_of f
  pub sections : StandBetween p.headers_end (length f) p.sections
  pub hashed : EndWithin (length f) (spans_of p)
  pub table : IfSome p.table (IsWithin (length f))
  pub sbat : IfSome p.sbat (IsWithin (length f))
  pub gap : p.gap ≤ length f
