-- Exports by the owner and the stamp of a history.
use Rattle.std.proofs.Common.{◌≡◌, ℕ, List, map, refl, ap}
use Rattle.sbat.specs.Writing.{level_lines}
use Rattle.desk_history.specs.Calls.{History}
use Rattle.desk_history.specs.Level.{stamp}
use Rattle.desk_exports.specs.Exports.{exported, level_components}
use Rattle.desk_exports.specs.declared.export.Export.{Export}
use Rattle.desk_exports.specs.declared.export.Export.TheVariants as exports
use Rattle.store_exports.specs.Exporting.{exported_with}

-- with the stamp of a history they are that history's
pub exported_by_stamp : (what : Export) (owner : List ℕ) (now : ℕ) (cs : History) → now ≡ stamp cs → exported_with what owner now cs ≡ exported what owner cs
exported_by_stamp exports.Db owner now cs is = refl
exported_by_stamp exports.Dbx owner now cs is = refl
exported_by_stamp exports.Shim owner now cs is = refl
exported_by_stamp exports.Level owner now cs is = ap (λ n. level_lines n (map (λ x. (x.name, x.generation)) (level_components cs))) is
exported_by_stamp exports.Minutes owner now cs is = refl
