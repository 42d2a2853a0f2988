-- Entries gathered so far.
use Rattle.std.specs.Prelude.{◌≡◌, ℕ, ◌+◌, ◌≤◌, min, not, length, true, bytes_eq, Bool, List, None}
use Rattle.sbat.specs.Fields.{sbat}
use Rattle.desk_types.specs.Forms.{most_imported}
use Rattle.desk_types.specs.Imports.{Imported}
use Rattle.desk_inputs.specs.imports.Items.{named_by}
use Rattle.desk_inputs.specs.declared.imports.item.Item.{Item}
use Rattle.desk_inputs.specs.declared.imports.item.Item.TheVariants as item

-- the number of entries that were gathered, and the import of them
pub record Gathering : Type 0 where
  pub count : ℕ
  pub names : Imported

-- an entry that doesn't raise the generation of SBAT itself
abbrev pub is_free : Item → Bool
is_free (item.Digest digest) = true
is_free (item.Certificate digest) = true
is_free (item.Component component) = not (bytes_eq component.name sbat)
is_free item.Passed = true

-- these entries, gathered: their count, up to one more than the limit, and the import of them
-- unless the limit is passed
pub record Gathers (items : List Item) (g : Gathering) : Type 0 where
  pub count : g.count ≡ min (length items) (most_imported + 1)
  pub named : g.count ≤ most_imported → g.names ≡ named_by None items
