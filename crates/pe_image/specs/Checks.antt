-- The conditions for an accepted image. own: the order of the checks, and those that name no
-- section.
use Rattle.std.specs.Prelude.{◌≡◌, ◌⊎◌, ℕ, ◌+◌, ◌*◌, ◌==◌, ◌&&◌, ◌||◌, Bool, true, not, nat_le, if◌then◌else◌, List, [], ◌∷◌, ◌++◌, length, Option, Some, None}
use Rattle.std.specs.List.{list_all}
use Rattle.base.specs.Limits.{longest_image}
use Rattle.base.specs.Numbers.{u16_at, u32_at}
use Rattle.pe_image.specs.Sources.{HaveRisen}
use Rattle.pe_image.specs.Image.{mz, dos_header_size, pe, pe32, pe32_plus, pe_signature_offset, optional_header_offset, number_of_sections, size_of_optional_header, magic, fixed_size, size_of_headers, subsystem, has_certificate_directory, table_offset, table_size, has_table, sections_begin, sections_end, raw, headers}
use Rattle.pe_image.specs.Sbat.{sbat_count, sbat_section, size_of_text}
use Rattle.pe_image.specs.Spans.{are_apart}
use Rattle.pe_image.specs.declared.fault.LayoutFault.{LayoutFault}
use Rattle.pe_image.specs.declared.fault.LayoutFault.TheVariants.{Short, NoMz, NoPe, Magic, NotEfi, Headers, Sections, Overlap, Table, TwoSbat, TooLong, Read}
use Rattle.pe_image.specs.declared.header.Header.{Header}
use Rattle.pe_image.specs.declared.span.Span.{Span}

-- own: no certificate table is longer than 1 MiB
abbrev pub longest_table : ℕ
longest_table = 1048576

-- own: no text of `.sbat` is longer than 64 KiB
abbrev pub longest_text : ℕ
longest_text = 65536

-- the headers up to the signature ("MS-DOS Stub", "Signature"). own: the file isn't too long
abbrev pub start_checks : List ℕ → List (Bool × LayoutFault)
start_checks f =
    (nat_le (length f) longest_image, TooLong)
    ∷ (nat_le dos_header_size (length f), Short)
    ∷ (u16_at f 0 == mz, NoMz)
    ∷ (nat_le (optional_header_offset f) (length f), Short)
    ∷ (u32_at f (pe_signature_offset f) == pe, NoPe)
    ∷ []

-- PE32 or PE32+ ("Optional Header Standard Fields")
abbrev pub magic_checks : List ℕ → List (Bool × LayoutFault)
magic_checks f =
    (nat_le (optional_header_offset f + 2) (length f) && (magic f == pe32 || magic f == pe32_plus), Magic)
    ∷ []

-- own: the optional header has room for the fields that are needed ("Optional Header")
abbrev pub size_checks : List ℕ → List (Bool × LayoutFault)
size_checks f =
    (nat_le (fixed_size f) (size_of_optional_header f) && nat_le (sections_begin f) (length f), Headers)
    ∷ (not (has_certificate_directory f) || nat_le (fixed_size f + 40) (size_of_optional_header f), Headers)
    ∷ []

-- a subsystem of EFI ("Windows Subsystem"). own: at most 96 sections, and headers that have room
-- for the section table and lie within the file
abbrev pub header_checks : List ℕ → List (Bool × LayoutFault)
header_checks f =
    (nat_le 10 (subsystem f) && nat_le (subsystem f) 13, NotEfi)
    ∷ (nat_le (number_of_sections f) 96, Sections)
    ∷ (
      nat_le (sections_begin f + 40 * number_of_sections f) (size_of_headers f)
          && nat_le (size_of_headers f) (length f),
      Headers,
    )
    ∷ []

-- the checks before the sections
abbrev pub front_checks : List ℕ → List (Bool × LayoutFault)
front_checks f = start_checks f ++ magic_checks f ++ size_checks f ++ header_checks f

-- own: raw sections lie within a file of this length, after its headers, and share no byte
abbrev pub section_checks : List Span → ℕ → ℕ → List (Bool × LayoutFault)
section_checks spans headers_end size =
    (list_all (λ s. nat_le s.to size) spans, Sections)
    ∷ (list_all (λ s. nat_le headers_end s.from) spans && are_apart spans, Overlap)
    ∷ []

-- own: the certificate table is the end of the file, begins after the sections, and isn't too long
abbrev pub table_checks : List ℕ → List (Bool × LayoutFault)
table_checks f = (
  not (has_table f)
      || (table_offset f + table_size f == length f) && nat_le (sections_end f) (table_offset f),
  Table,
)
    ∷ (not (has_table f) || nat_le (table_size f) longest_table, TooLong)
    ∷ []

-- own: there is one section `.sbat` at most, and its text isn't too long
abbrev pub sbat_checks : List Header → List (Bool × LayoutFault)
sbat_checks hs =
    (nat_le (sbat_count hs) 1, TwoSbat)
    ∷ (nat_le (size_of_text (sbat_section hs)) longest_text, TooLong)
    ∷ []

-- every check with its fault
abbrev pub checks : List ℕ → List (Bool × LayoutFault)
checks f =
    front_checks f ++ section_checks (raw f) (size_of_headers f) (length f) ++ table_checks f
    ++ sbat_checks (headers f)

-- each check holds
abbrev pub AllHold : List (Bool × LayoutFault) → Type 0
AllHold [] = Unit {0}
AllHold (c ∷ cs) = (c.0 ≡ true) × AllHold cs

-- every condition of an image that is accepted
abbrev pub IsLaid : List ℕ → Type 0
IsLaid f = AllHold (checks f)

-- own: the fault of the first check that fails
abbrev pub first_of : List (Bool × LayoutFault) → Option LayoutFault
first_of [] = None
first_of (c ∷ cs) = if c.0 then first_of cs else Some c.1

-- the same for a whole file
abbrev pub first_fault : List ℕ → Option LayoutFault
first_fault f = first_of (checks f)

-- Why an image is refused: its first failing check, or a failed read, in which case the failure
-- count rose or was already at its maximum.
abbrev pub IsRefused : List (Bool × LayoutFault) → ℕ → ℕ → LayoutFault → Type 0
IsRefused cs before after fault =
    (first_of cs ≡ Some fault) ⊎ ((fault ≡ Read) × HaveRisen before after)
