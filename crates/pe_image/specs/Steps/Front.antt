-- The values of an image's headers before its sections are read.
use Rattle.std.specs.Prelude.{◌≡◌, ◌<◌, ◌≤◌, ◌+◌, ◌*◌, ◌^◌, ℕ, List, length, IfSome}
use Rattle.base.specs.Limits.{longest_image}
use Rattle.pe_image.specs.Image.{pe_signature_offset, fixed_size, sections_begin, number_of_sections, size_of_headers}
use Rattle.pe_image.specs.Places.{certificate_directory_of}
use Rattle.pe_image.specs.declared.front.Front.{Front}
use Rattle.pe_image.specs.declared.optional.Directories.{Directories}
use Rattle.pe_image.specs.declared.optional.HeaderExtent.{HeaderExtent}

-- the signature's offset, in a file that isn't too long
pub record IsStart (f : List ℕ) (pe_signature : ℕ) : Type 0 where
  pub exact : pe_signature ≡ pe_signature_offset f
  pub small : pe_signature < 2 ^ 32
  pub within : pe_signature + 24 ≤ length f
  pub short : length f ≤ longest_image

-- the size of the optional header without its data directories
pub record IsFixedSize (f : List ℕ) (size : ℕ) : Type 0 where
  pub exact : size ≡ fixed_size f
  pub least : 96 ≤ size
  pub most : size ≤ 112

-- the section table's place and the certificate table's entry; the fields up to Subsystem are there
pub record AreDirectories (f : List ℕ) (directories : Directories) : Type 0 where
  pub begin : directories.sections_begin ≡ sections_begin f
  pub low : directories.sections_begin < 2 ^ 40
  pub certificate_directory : directories.certificate_directory ≡ certificate_directory_of f
  pub inside : IfSome directories.certificate_directory (λ e. e.from + 8 ≤ length f)
  pub fields : pe_signature_offset f + 120 ≤ length f

-- the number of sections, and the offset where the headers end, after the section table
pub record IsHeaderExtent (f : List ℕ) (extent : HeaderExtent) : Type 0 where
  pub count : extent.count ≡ number_of_sections f
  pub few : extent.count ≤ 96
  pub end : extent.headers_end ≡ size_of_headers f
  pub table : sections_begin f + 40 * extent.count ≤ extent.headers_end
  pub fits : extent.headers_end ≤ length f

-- all of these
pub record IsFront (f : List ℕ) (front : Front) : Type 0 where
  pub start : IsStart f front.pe_signature
  pub directories : AreDirectories f front.directories
  pub extent : IsHeaderExtent f front.extent
