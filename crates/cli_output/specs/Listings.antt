-- The lines of an image's ranges, of its facts, and of signature lists.
use Rattle.std.specs.Prelude.{◌≡◌, ◌<◌, ◌⊎◌, ℕ, List, ◌++◌, codes, decimal, length}
use Rattle.std.specs.List.{flat_map}
use Rattle.hex.specs.Hex.{encode_lower}
use Rattle.base.specs.Guids.{text_of}
use Rattle.base.specs.Limits.{longest_image}
use Rattle.base.specs.declared.refusal.Refusal.{Refusal}
use Rattle.base.specs.declared.refusal.Refusal.TheVariants as refusals
use Rattle.pe_image.specs.Checks as layout
use Rattle.pe_image.specs.Checks.{checks}
use Rattle.pe_image.specs.Places.{Places, spans_of}
use Rattle.pe_image.specs.declared.fault.LayoutFault.{LayoutFault}
use Rattle.pe_image.specs.declared.span.Span.{Span}
use Rattle.sbat.specs.declared.component.Component.{Component}
use Rattle.siglist.specs.Kinds.{kind_of}
use Rattle.siglist.specs.ListsFaults as lists
use Rattle.siglist.specs.SignatureLists.{Placed}
use Rattle.siglist.specs.declared.fault.ListsFault.{ListsFault}
use Rattle.siglist.specs.declared.kind.Kind.{Kind}
use Rattle.siglist.specs.declared.kind.Kind.TheVariants as kinds
use Rattle.desk_types.specs.declared.facts.Facts.{Facts}
use Rattle.cli_output.specs.Faults.{of_layout, of_lists, row_of}
use Rattle.cli_output.specs.declared.fault.Fault.{Fault}

-- own: `FROM-TO`, the offsets of a range's first byte and of the one after its last
unfoldable pub range_line : Span → List ℕ
range_line s = decimal s.from ++ codes "-" ++ decimal s.to ++ codes "\n"

-- own: `gap N`, the bytes before the sections' end that are in no header and in no section
unfoldable pub gap_line : ℕ → List ℕ
gap_line gap = codes "gap " ++ decimal gap ++ codes "\n"

-- a line for each range, in the order of hashing, and that of the gap
abbrev pub ranges_lines : Places → List ℕ
ranges_lines places = flat_map range_line (spans_of places) ++ gap_line places.gap

-- own: the lengths and digests of an image's facts
unfoldable pub image_lines : Facts → List ℕ
image_lines facts =
    codes "length " ++ decimal facts.extent.length ++ codes "\nfile " ++ encode_lower facts.file
    ++ codes "\ndigest " ++ encode_lower facts.digest ++ codes "\nsigning " ++ encode_lower facts.signing
    ++ codes "\ngap " ++ decimal facts.extent.gap ++ codes "\n"

-- own: `certificate HEX`, the SHA-256 of a TBSCertificate
unfoldable pub certificate_line : List ℕ → List ℕ
certificate_line digest = codes "certificate " ++ encode_lower digest ++ codes "\n"

-- own: `component NAME GENERATION`
unfoldable pub component_line : Component → List ℕ
component_line c = codes "component " ++ c.name ++ codes " " ++ decimal c.generation ++ codes "\n"

-- the image's lines, a line for each certificate and one for each component
abbrev pub facts_lines : Facts → List ℕ
facts_lines facts = image_lines facts ++ flat_map certificate_line facts.carried ++ flat_map component_line facts.components

-- own: the word of a kind, or its type's GUID
abbrev pub kind_word : Kind → List ℕ
kind_word kinds.Sha256 = codes "sha256"
kind_word kinds.X509 = codes "x509"
kind_word kinds.X509Sha256 = codes "x509_sha256"
kind_word (kinds.Other guid) = text_of guid

-- own: `OFFSET KIND COUNT`
unfoldable pub list_words : ℕ → List ℕ → ℕ → List ℕ
list_words offset kind count = decimal offset ++ codes " " ++ kind ++ codes " " ++ decimal count ++ codes "\n"

-- where the list begins, its kind and how many entries it has
abbrev pub list_line : Placed → List ℕ
list_line l = list_words l.offset (kind_word (kind_of l.list.kind)) (length l.list.entries)

-- why a line isn't written
abbrev pub IsLineRefusal : Refusal → Type 0
IsLineRefusal refusal = (refusal ≡ refusals.NoMemory) ⊎ (refusal ≡ refusals.Write)

-- the row for an image without a layout
abbrev pub IsUnlaid : List ℕ → ℕ → ℕ → Fault → Type 0
IsUnlaid file before after fault = (lack : LayoutFault) × layout.IsRefused (checks file) before after lack × (fault ≡ of_layout lack)

-- the row for bytes that are too many, or aren't lists
abbrev pub IsUnlisted : List ℕ → Fault → Type 0
IsUnlisted bytes fault =
    ((longest_image < length bytes) × (fault ≡ row_of refusals.TooLong))
    ⊎ ((lack : ListsFault) × lists.IsRefused bytes lack × (fault ≡ of_lists lack))
