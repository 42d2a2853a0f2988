-- Schemas that fit a layout.
use Rattle.std.proofs.Common.{◌≡◌, ◌∙◌, refl, sym, ap, ap₂, append-nil}
use Rattle.sqlite.specs.Effect.{Database}
use Rattle.sqlite.specs.Schema.{Schema}
use Rattle.sqlite.specs.State.{State}
use Rattle.sqlite.specs.Tree.{Trees}
use Rattle.store_sql.specs.Contents.{AreTablesOf, Contents, Holds}
use Rattle.store_sql.specs.Layouts.{Fits, Layout, alone, beside, leading, no_others}
use Rattle.store_sql.specs.States.{Shows}

beside_none : (schema : Schema) → beside schema no_others ≡ schema
beside_none schema = ap₂ (λ tables indexes. record { tables = tables; indexes = indexes; views = schema.views }) (append-nil schema.tables) (append-nil schema.indexes)

-- a layout's own schema fits it
pub fits_itself : (layout : Layout) → Fits layout layout.schema
fits_itself layout = record { others = no_others; is = sym (beside_none layout.schema); none = λ _. refl; refer = tt }

-- ---- no others

pub fits_alone : (schema : Schema) → Fits (alone schema) schema
fits_alone schema = fits_itself (alone schema)

-- only the schema itself fits a layout without others
pub is_alone : (schema other : Schema) → Fits (alone schema) other → other ≡ schema
is_alone schema other fits = fits.is ∙ ap (beside schema) (fits.none refl) ∙ beside_none schema

-- ---- others may follow, but need not

pub fits_leading : (schema other : Schema) → Fits (alone schema) other → Fits (leading schema) other
fits_leading schema other fits = record { others = fits.others; is = fits.is; none = λ leads. absurd (let e = leads in cc); refer = fits.refer }

pub holds_leading : (schema : Schema) (db : Database) (c : Contents) → Holds (alone schema) db c → Holds (leading schema) db c
holds_leading schema db c holds = record { fits = fits_leading schema db.schema holds.fits; sound = holds.sound; rows = holds.rows }

pub tables_leading : (schema : Schema) (db : Trees) (c : Contents) → AreTablesOf (alone schema) db c → AreTablesOf (leading schema) db c
tables_leading schema db c are = record {
  sound = record { schema = are.sound.schema; fits = fits_leading schema are.sound.schema are.sound.fits; sound = are.sound.sound };
  rows = are.rows;
}

pub shows_leading : (schema : Schema) (s : State) (c : Contents) → Shows (alone schema) s c → Shows (leading schema) s c
shows_leading schema s c shows = record {
  outside = shows.outside;
  holds = λ clean live. (let it = shows.holds clean live in (holds_leading schema s.now c it.0, it.1));
}
