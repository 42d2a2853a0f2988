-- The entries of an import, and the command that names them.
use Rattle.std.specs.Prelude.{◌≡◌, ℕ, ◌≤◌, ◌<◌, count_by, length, Bool, true, false, List, [], ◌∷◌, Option}
use Rattle.std.specs.List.{flat_map}
use Rattle.sbat.specs.declared.component.Component.{Component}
use Rattle.desk_types.specs.Forms.{most_imported}
use Rattle.desk_types.specs.Imports.{Imported}
use Rattle.desk_types.specs.declared.command.Command.{Command}
use Rattle.desk_types.specs.declared.command.Command.TheVariants.{ImportRevocations}
use Rattle.desk_inputs.specs.declared.imports.item.Item.{Item}
use Rattle.desk_inputs.specs.declared.imports.item.Item.TheVariants as item

-- the digest of an image, if the entry is one
abbrev pub digest_in : Item → List (List ℕ)
digest_in (item.Digest digest) = digest ∷ []
digest_in (item.Certificate digest) = []
digest_in (item.Component component) = []
digest_in item.Passed = []

-- the digest of a certificate, if the entry is one
abbrev pub certificate_in : Item → List (List ℕ)
certificate_in (item.Digest digest) = []
certificate_in (item.Certificate digest) = digest ∷ []
certificate_in (item.Component component) = []
certificate_in item.Passed = []

-- the component, if the entry is one
abbrev pub component_in : Item → List Component
component_in (item.Digest digest) = []
component_in (item.Certificate digest) = []
component_in (item.Component component) = component ∷ []
component_in item.Passed = []

-- a skipped entry
abbrev pub is_passed : Item → Bool
is_passed (item.Digest digest) = false
is_passed (item.Certificate digest) = false
is_passed (item.Component component) = false
is_passed item.Passed = true

-- own: the import of these entries: those of each kind in order, repeats kept, and how many are
-- skipped
abbrev pub named_by : Option ℕ → List Item → Imported
named_by stamp items = record {
  stamp = stamp;
  passed = count_by is_passed items;
  digests = flat_map digest_in items;
  certificates = flat_map certificate_in items;
  components = flat_map component_in items;
}

-- the one command that names all of these entries
abbrev pub command_of : Option ℕ → List Item → Command
command_of stamp items = ImportRevocations (named_by stamp items)

-- own: skipped entries count too, and so does each repeat
abbrev pub IsTooMany : List Item → Type 0
IsTooMany items = most_imported < length items

-- the command names all of these entries, which are within the limit
abbrev pub IsCommandOf : Option ℕ → List Item → Command → Type 0
IsCommandOf stamp items command = (command ≡ command_of stamp items) × (length items ≤ most_imported)
