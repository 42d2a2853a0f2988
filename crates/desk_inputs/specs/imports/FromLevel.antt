-- Imports of the text of an SBAT level (shim's SBAT.md).
use Rattle.std.specs.Prelude.{ℕ, map, ⊤, List, Some}
use Rattle.std.specs.FinMap.{entries}
use Rattle.sbat.specs.Levels.{Stamped}
use Rattle.sbat.specs.Refusals.{IsLevelOf, RefusesLevel}
use Rattle.sbat.specs.declared.fault.SbatFault.TheVariants as sbat
use Rattle.desk_types.specs.declared.command.Command.{Command}
use Rattle.desk_inputs.specs.imports.Items.{IsCommandOf}
use Rattle.desk_inputs.specs.declared.imports.item.Item.{Item}
use Rattle.desk_inputs.specs.declared.imports.item.Item.TheVariants as item
use Rattle.desk_inputs.specs.declared.imports.fault.ImportFault.{ImportFault}
use Rattle.desk_inputs.specs.declared.imports.fault.ImportFault.TheVariants as fault

-- one name of a level with its generation
abbrev pub name_item : List ℕ × ℕ → Item
name_item entry = item.Component (record { name = entry.0; generation = entry.1 })

-- own: the names of a level, ascending by their bytes, each once with its greatest generation
abbrev pub level_items : Stamped → List Item
level_items level = map name_item (entries level.generations)

-- the text is that of a level, and the command has all of the level's names, and its stamp
pub record IsLevelImport (text : List ℕ) (command : Command) : Type 0 where
  pub level : Stamped
  pub read : IsLevelOf text level
  pub is : IsCommandOf (Some level.stamp) (level_items level) command

-- own: the text is refused for this; TooLong, for more different names than the limit, only if no
-- line is wrong; NoMemory may come at any time
abbrev pub RefusesLevelImport : List ℕ → ImportFault → Type 0
RefusesLevelImport text (fault.Lists why) = ⊥
RefusesLevelImport text (fault.Record number) = ⊥
RefusesLevelImport text (fault.Line number) = RefusesLevel text (sbat.Row number)
RefusesLevelImport text fault.TooLong = RefusesLevel text sbat.TooLong
RefusesLevelImport text fault.NoMemory = ⊤
