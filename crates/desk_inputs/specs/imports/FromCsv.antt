-- Imports of a CSV file (RFC 4180).
use Rattle.std.specs.Prelude.{◌≡◌, ℕ, ◌+◌, ◌==◌, ⊤, length, codes, List, [], ◌∷◌, Bool, false, Option, None, Result, Ok, Err, IsOkAnd, option_map, if◌then◌else◌, ◌&&◌}
use Rattle.std.specs.Str.{bytes_eq}
use Rattle.csv.specs.Reading.{default_config, records, strip_bom}
use Rattle.base.specs.Digests.{digest_of}
use Rattle.base.specs.Lines.{named_at}
use Rattle.sbat.specs.Levels.{unless_sbat}
use Rattle.sbat.specs.Rows.{row_in}
use Rattle.desk_types.specs.declared.command.Command.{Command}
use Rattle.desk_inputs.specs.imports.Items.{IsCommandOf, IsTooMany}
use Rattle.desk_inputs.specs.declared.imports.item.Item.{Item}
use Rattle.desk_inputs.specs.declared.imports.item.Item.TheVariants as item
use Rattle.desk_inputs.specs.declared.imports.fault.ImportFault.{ImportFault}
use Rattle.desk_inputs.specs.declared.imports.fault.ImportFault.TheVariants as fault

-- the fields of a record
abbrev pub Record : Type 0
Record = List (List ℕ)

-- the records of the file, its header first: separated by commas and ends of lines, with double
-- quotes. own: the byte order mark EF BB BF at its beginning is dropped, and empty lines aren't
-- records
abbrev pub records_of : List ℕ → List Record
records_of text = records default_config (strip_bom text)

-- own: the header's fields
abbrev pub is_header : Record → Bool
is_header (kind ∷ value ∷ generation ∷ []) =
    bytes_eq kind (codes "kind") && bytes_eq value (codes "value") && bytes_eq generation (codes "generation")
is_header _ = false

-- own: a digest has 64 hexadecimal digits, and no generation
abbrev pub digest_at : List ℕ → List ℕ → Option (List ℕ)
digest_at value generation = if length generation == 0 then digest_of value else None

-- own: the entry of three fields: `sha256` is a digest of an image, `x509_sha256` the SHA-256 of a
-- TBSCertificate, `sbat` a component's name, other than `sbat`, with its generation
unfoldable pub fields_item : List ℕ → List ℕ → List ℕ → Option Item
fields_item kind value generation =
    if bytes_eq kind (codes "sha256") then option_map item.Digest (digest_at value generation)
    else if bytes_eq kind (codes "x509_sha256") then option_map item.Certificate (digest_at value generation)
    else if bytes_eq kind (codes "sbat") then option_map item.Component (unless_sbat (row_in (value ∷ generation ∷ [])))
    else None

-- own: a record has three fields
abbrev pub record_item : Record → Option Item
record_item (kind ∷ value ∷ generation ∷ []) = fields_item kind value generation
record_item _ = None

-- the entries of the records, numbered from n, or the number of the first wrong record
abbrev pub items_from : ℕ → List Record → Result (List Item) ℕ
items_from n [] = Ok []
items_from n (r ∷ rs) = named_at n (record_item r) (items_from (n + 1) rs)

-- own: the entries of a file after its header, which is record 0 and must be there
abbrev pub items_in : List Record → Result (List Item) ℕ
items_in [] = Err 0
items_in (r ∷ rs) = if is_header r then items_from 1 rs else Err 0

-- the file's records are all right, and the command names all of their entries, with this stamp or
-- none
pub record IsCsvImport (text : List ℕ) (stamp : Option ℕ) (command : Command) : Type 0 where
  pub items : List Item
  pub read : items_in (records_of text) ≡ Ok items
  pub is : IsCommandOf stamp items command

-- own: why a file is refused: the number of its first wrong record, or TooLong, only if no record
-- is wrong; NoMemory may come at any time
abbrev pub IsRefused : Result (List Item) ℕ → ImportFault → Type 0
IsRefused read (fault.Lists why) = ⊥
IsRefused read (fault.Record number) = read ≡ Err number
IsRefused read (fault.Line number) = ⊥
IsRefused read fault.TooLong = IsOkAnd read IsTooMany
IsRefused read fault.NoMemory = ⊤

-- the file is refused for this
abbrev pub RefusesCsv : List ℕ → ImportFault → Type 0
RefusesCsv text = IsRefused (items_in (records_of text))
