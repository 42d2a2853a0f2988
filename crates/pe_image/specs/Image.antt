-- The numbers of an image, at their offsets in the file (PE/COFF).
use Rattle.std.specs.Prelude.{ℕ, ◌+◌, ◌-◌, ◌==◌, ◌&&◌, Bool, nat_lt, if◌then◌else◌, List, length, sum_by}
use Rattle.base.specs.Numbers.{u16_at, u32_at}
use Rattle.pe_image.specs.Headers.{headers_from, raw_of}
use Rattle.pe_image.specs.Spans.{size_of, reach}
use Rattle.pe_image.specs.declared.header.Header.{Header}
use Rattle.pe_image.specs.declared.span.Span.{Span}

-- `MZ` ("MS-DOS Stub"), as a u16
abbrev pub mz : ℕ
mz = 0x5a4d

-- the size of the MS-DOS header ("MS-DOS Stub")
abbrev pub dos_header_size : ℕ
dos_header_size = 64

-- `PE`, 0, 0 ("Signature"), as a u32
abbrev pub pe : ℕ
pe = 0x4550

-- the offset of the signature, which is stored at 0x3c ("MS-DOS Stub")
abbrev pub pe_signature_offset : List ℕ → ℕ
pe_signature_offset f = u32_at f 0x3c

-- the offset of the optional header: the signature and the file header have 24 bytes ("COFF File
-- Header")
abbrev pub optional_header_offset : List ℕ → ℕ
optional_header_offset f = pe_signature_offset f + 24

-- NumberOfSections ("COFF File Header")
abbrev pub number_of_sections : List ℕ → ℕ
number_of_sections f = u16_at f (pe_signature_offset f + 6)

-- SizeOfOptionalHeader ("COFF File Header")
abbrev pub size_of_optional_header : List ℕ → ℕ
size_of_optional_header f = u16_at f (pe_signature_offset f + 20)

-- Magic ("Optional Header Standard Fields")
abbrev pub magic : List ℕ → ℕ
magic f = u16_at f (optional_header_offset f)

-- Magic of PE32
abbrev pub pe32 : ℕ
pe32 = 0x10b

-- Magic of PE32+
abbrev pub pe32_plus : ℕ
pe32_plus = 0x20b

-- the size of the optional header without its data directories ("Optional Header")
abbrev pub fixed_size : List ℕ → ℕ
fixed_size f = if magic f == pe32_plus then 112 else 96

-- SizeOfHeaders ("Optional Header Windows-Specific Fields")
abbrev pub size_of_headers : List ℕ → ℕ
size_of_headers f = u32_at f (optional_header_offset f + 60)

-- the offset of CheckSum, which has 4 bytes ("Optional Header Windows-Specific Fields")
abbrev pub checksum_offset : List ℕ → ℕ
checksum_offset f = optional_header_offset f + 64

-- Subsystem ("Windows Subsystem")
abbrev pub subsystem : List ℕ → ℕ
subsystem f = u16_at f (optional_header_offset f + 68)

-- NumberOfRvaAndSizes, the last number before the data directories
abbrev pub number_of_rva_and_sizes : List ℕ → ℕ
number_of_rva_and_sizes f = u32_at f (optional_header_offset f + (fixed_size f - 4))

-- whether there is an entry of the certificate table, the fifth data directory
abbrev pub has_certificate_directory : List ℕ → Bool
has_certificate_directory f = nat_lt 4 (number_of_rva_and_sizes f)

-- the offset of that entry, which has 8 bytes ("Optional Header Data Directories")
abbrev pub certificate_directory_offset : List ℕ → ℕ
certificate_directory_offset f = optional_header_offset f + (fixed_size f + 32)

-- where the certificate table begins: its entry gives a file offset
abbrev pub table_offset : List ℕ → ℕ
table_offset f = u32_at f (certificate_directory_offset f)

-- the number of bytes of the certificate table
abbrev pub table_size : List ℕ → ℕ
table_size f = u32_at f (certificate_directory_offset f + 4)

-- whether there is a certificate table
abbrev pub has_table : List ℕ → Bool
has_table f = has_certificate_directory f && nat_lt 0 (table_size f)

-- where the section table begins ("Section Table")
abbrev pub sections_begin : List ℕ → ℕ
sections_begin f = optional_header_offset f + size_of_optional_header f

-- the section headers
unfoldable pub headers : List ℕ → List Header
headers f = headers_from f (sections_begin f) (number_of_sections f)

-- the spans of the raw sections, in the order of their headers
unfoldable pub raw : List ℕ → List Span
raw f = raw_of (headers f)

-- SUM_OF_BYTES_HASHED: the size of the headers and of all raw sections (Authenticode)
abbrev pub sum_of_bytes_hashed : List ℕ → ℕ
sum_of_bytes_hashed f = size_of_headers f + sum_by size_of (raw f)

-- where the headers and the raw sections end
abbrev pub sections_end : List ℕ → ℕ
sections_end f = reach (size_of_headers f) (raw f)

-- own: the number of bytes before the sections' end that are in no header and in no section
abbrev pub gap : List ℕ → ℕ
gap f = sections_end f - sum_of_bytes_hashed f

-- where the hashed bytes end: at the certificate table, or with the file (Authenticode)
abbrev pub image_end : List ℕ → ℕ
image_end f = if has_table f then table_offset f else length f
