-- The rows of SBAT text (shim's SBAT.md): a name and a generation each.
use Rattle.std.specs.Prelude.{ℕ, nat_lt, length, List, ◌∷◌, Option, Some, None, Result, if◌then◌else◌}
use Rattle.base.specs.Lines.{named_in}
use Rattle.sbat.specs.Fields.{fields_of, generation_of, is_name}
use Rattle.sbat.specs.Texts.{rows_of}
use Rattle.sbat.specs.declared.component.Component.{Component}

-- a row: the fields `name` and `generation`
abbrev pub Row : Type 0
Row = Component

-- a name with its generation, if that was read
abbrev pub with_generation : List ℕ → Option ℕ → Option Row
with_generation name None = None
with_generation name (Some n) = Some (record { name = name; generation = n })

-- the row of the first two fields
abbrev pub row_in : List (List ℕ) → Option Row
row_in (name ∷ generation ∷ more) =
    if is_name name then with_generation name (generation_of generation) else None
row_in _ = None

-- an image's line: component_name, component_generation, vendor_name, vendor_package_name,
-- vendor_version and vendor_url. own: more may follow, and the last four aren't examined
abbrev pub image_row : List ℕ → Option Row
image_row line = if nat_lt (length (fields_of line)) 6 then None else row_in (fields_of line)

-- the components that the text of an image's section `.sbat` names, or the number of the first
-- wrong line
abbrev pub components_of : List ℕ → Result (List Row) ℕ
components_of text = named_in image_row (rows_of text)
