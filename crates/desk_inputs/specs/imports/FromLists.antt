-- Imports of signature lists (UEFI 2.10, section 32.4.1).
use Rattle.std.specs.Prelude.{ℕ, ◌==◌, ◌&&◌, length, map, take, ⊤, List, Option, Some, None, if◌then◌else◌}
use Rattle.std.specs.List.{flat_map}
use Rattle.sha2.specs.Sha256.{sha256}
use Rattle.base.specs.Elements.{sequence}
use Rattle.base.specs.Parts.{Part, element_of}
use Rattle.siglist.specs.Kinds.{kind_of}
use Rattle.siglist.specs.ListsFaults as lists
use Rattle.siglist.specs.SignatureLists.{Entry, SignatureList, Spells}
use Rattle.siglist.specs.declared.kind.Kind.{Kind}
use Rattle.siglist.specs.declared.kind.Kind.TheVariants as kind
use Rattle.desk_types.specs.declared.command.Command.{Command}
use Rattle.desk_inputs.specs.imports.Items.{IsCommandOf, IsTooMany}
use Rattle.desk_inputs.specs.declared.imports.item.Item.{Item}
use Rattle.desk_inputs.specs.declared.imports.item.Item.TheVariants as item
use Rattle.desk_inputs.specs.declared.imports.fault.ImportFault.{ImportFault}
use Rattle.desk_inputs.specs.declared.imports.fault.ImportFault.TheVariants as fault

-- the first element of a certificate's content, which is its TBSCertificate if it is a SEQUENCE
abbrev pub first_in : Option Part → Option (List ℕ)
first_in None = None
first_in (Some part) = if part.tag == sequence then Some part.whole else None

-- the same for an element that must be a certificate and all of the bytes
abbrev pub tbs_in : Option Part → Option (List ℕ)
tbs_in None = None
tbs_in (Some part) =
    if (part.tag == sequence) && (length part.rest == 0) then first_in (element_of part.content) else None

-- the TBSCertificate of a certificate (RFC 5280, 4.1), or none if the bytes aren't one
unfoldable pub tbs_of : List ℕ → Option (List ℕ)
tbs_of bytes = tbs_in (element_of bytes)

-- own: a certificate is identified by the SHA-256 of its TBSCertificate; a body that isn't a
-- certificate is skipped
abbrev pub certificate_item : Option (List ℕ) → Item
certificate_item None = item.Passed
certificate_item (Some tbs) = item.Certificate (sha256 tbs)

-- own: the entry of a list of this kind, as an entry of an import: of EFI_CERT_X509_SHA256_GUID the
-- digest counts, not the time of revocation after it; entries of other kinds are skipped
abbrev pub item_of : Kind → Entry → Item
item_of kind.Sha256 entry = item.Digest entry.body
item_of kind.X509 entry = certificate_item (tbs_of entry.body)
item_of kind.X509Sha256 entry = item.Certificate (take 32 entry.body)
item_of (kind.Other guid) entry = item.Passed

-- the entries of one list in their order
abbrev pub list_items : SignatureList → List Item
list_items list = map (item_of (kind_of list.kind)) list.entries

-- the entries of all lists in their order
abbrev pub row_items : List SignatureList → List Item
row_items row = flat_map list_items row

-- the bytes spell a row of lists, and the command names all of their entries, without a stamp
pub record IsDbxImport (bytes : List ℕ) (command : Command) : Type 0 where
  pub row : List SignatureList
  pub spelt : Spells row bytes
  pub is : IsCommandOf None (row_items row) command

-- the bytes spell a row of lists with more entries than one import may have
pub record HasManyEntries (bytes : List ℕ) : Type 0 where
  pub row : List SignatureList
  pub spelt : Spells row bytes
  pub many : IsTooMany (row_items row)

-- own: the bytes are refused for this; TooLong only if they are lists; NoMemory may come at any
-- time
abbrev pub RefusesDbx : List ℕ → ImportFault → Type 0
RefusesDbx bytes (fault.Lists why) = lists.IsRefused bytes why
RefusesDbx bytes (fault.Record number) = ⊥
RefusesDbx bytes (fault.Line number) = ⊥
RefusesDbx bytes fault.TooLong = HasManyEntries bytes
RefusesDbx bytes fault.NoMemory = ⊤
