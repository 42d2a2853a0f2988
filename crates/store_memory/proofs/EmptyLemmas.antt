-- What is found in empty files.
use Rattle.std.proofs.Common.{◌≡◌, [], ap, List, ◌∷◌, length, ◌<◌, arith, refl, inl, inr}
use Rattle.std.specs.List.{AllZip}
use Rattle.sqlite.specs.Files.{AreFoundIn, IsEmpty}
use Rattle.sqlite_catalog.specs.Listing.{AreListed, IsIndexRow, IsSound, IsTableRow, IsViewRow}
use Rattle.sqlite_trees.specs.Tree.{Trees}
use Rattle.sqlite_schema.specs.declared.schema.Index.{Index}
use Rattle.sqlite_schema.specs.declared.schema.Schema.{Schema}
use Rattle.sqlite_schema.specs.declared.schema.Table.{Table}
use Rattle.sqlite_schema.specs.declared.schema.View.{View}
use Rattle.sqlite_wal.specs.Recovery.{Image}

-- there is no database where the database file is empty
pub nothing_found : (image : Image) (db : Trees) → image.db ≡ [] → AreFoundIn image db → IsEmpty db
nothing_found image db none (inl found) = let present : 0 < length image.db = found.3.found.present in absurd (omega (arith, present, ap length none))
nothing_found image db none (inr found) = found.1

zip_none : {A B : Type 0} (R : A → B → Type 0) (ys : List B) → AllZip R [] ys → ys ≡ []
zip_none R [] h = refl
zip_none R (y ∷ ys) h = absurd h

without : (tables : List Table) (indexes : List Index) (views : List View) → tables ≡ [] → indexes ≡ [] → views ≡ []
    → ◌≡◌ {A = Schema} (record { tables = tables; indexes = indexes; views = views }) (record { tables = []; indexes = []; views = [] })
without tables indexes views t i v = rw (t, i, v) refl

unlisted : (schema : Schema) → AreListed [] schema → schema ≡ record { tables = []; indexes = []; views = [] }
unlisted schema listed =
    without schema.tables schema.indexes schema.views (zip_none IsTableRow _ listed.tables) (zip_none (IsIndexRow schema.tables) _ listed.indexes) (zip_none IsViewRow _ listed.views)

-- an empty database has no schema
pub no_tables : (schema : Schema) (db : Trees) → IsEmpty db → IsSound schema db → schema ≡ record { tables = []; indexes = []; views = [] }
no_tables schema db empty sound = unlisted schema (rw empty.1 at sound.lists.listed)
