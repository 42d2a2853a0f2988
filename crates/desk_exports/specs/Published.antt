-- The exports that whoever has a token reads, among all exports.
use Rattle.desk_exports.specs.declared.export.Export.{Export}
use Rattle.desk_exports.specs.declared.export.Export.TheVariants as exports
use Rattle.desk_exports.specs.declared.published.Published.{Published}
use Rattle.desk_exports.specs.declared.published.Published.TheVariants as published

-- the export of this name
abbrev pub export_of : Published → Export
export_of published.Dbx = exports.Dbx
export_of published.Db = exports.Db
export_of published.Level = exports.Level
