-- The records that a reader of CSV has left.
use Rattle.std.specs.Prelude.{◌≡◌, ℕ, ◌<◌, length, false, List, [], ◌∷◌, Option, Some, Ok, ⊤}
use Rattle.csv.specs.Machine.{ends_at_end}
use Rattle.csv.specs.Reading.{Ready, default_config, records_from, source_of}
use Rattle.csv.specs.declared.reader.Reader.{Reader}
use Rattle.csv.specs.declared.reader.Trim.TheVariants as trim
use Rattle.desk_inputs.specs.imports.FromCsv.{Record, items_from, items_in}
use Rattle.desk_inputs.specs.imports.Gathering.{Gathering, Gathers}
use Rattle.desk_inputs.specs.declared.imports.csv_rows.Next.{Next}
use Rattle.desk_inputs.specs.declared.imports.csv_rows.Next.TheVariants as next
use Rattle.desk_inputs.specs.declared.imports.item.Item.{Item}

-- a reader of slices with the crate's defaults is between records, and these are left
pub record Leaves {R : Type 0} (remaining : R → Option (List ℕ)) (reader : Reader R) (rows : List Record) : Type 0 where
  pub trim : reader.trim ≡ trim.None
  pub ready : Ready reader
  pub config : reader.config ≡ default_config
  pub between : ends_at_end reader.state ≡ false
  pub text : List ℕ
  pub source : source_of remaining reader ≡ Some text
  pub most : ℕ
  pub enough : length text < most
  pub are : rows ≡ records_from default_config most reader.state text

-- the outcome of a read by a reader that had these records left: the first of them, or none;
-- NoMemory may come at any time
abbrev pub Reads : {R : Type 0} → (R → Option (List ℕ)) → Next → Record → List Record → Reader R → Type 0
Reads remaining next.Record row rows reader = (rest : List Record) × (rows ≡ row ∷ rest) × Leaves remaining reader rest
Reads remaining next.End row rows reader = rows ≡ []
Reads remaining next.NoMemory row rows reader = ⊤

-- the first of these records is the header, and the reader has those after it left
pub record PassesHeader {R : Type 0} (remaining : R → Option (List ℕ)) (rows : List Record) (reader : Reader R) : Type 0 where
  pub rest : List Record
  pub same : items_in rows ≡ items_from 1 rest
  pub leaves : Leaves remaining reader rest

-- all of these records were gathered; the first is the header
pub record GathersRecords (rows : List Record) (g : Gathering) : Type 0 where
  pub items : List Item
  pub read : items_in rows ≡ Ok items
  pub gathers : Gathers items g
