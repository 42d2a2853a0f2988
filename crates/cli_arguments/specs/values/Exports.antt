-- An export among the words of a subcommand.
use Rattle.std.specs.Prelude.{ℕ, List, Option, None, Some, Result, Ok, Err, codes, if◌then◌else◌}
use Rattle.std.specs.Str.{bytes_eq}
use Rattle.desk_exports.specs.declared.export.Export.{Export}
use Rattle.desk_exports.specs.declared.export.Export.TheVariants as exports
use Rattle.cli_arguments.specs.declared.values.stop.Stop.{Stop}
use Rattle.cli_arguments.specs.declared.values.stop.Stop.TheVariants as stops
use Rattle.cli_arguments.specs.declared.values.stop.Word.TheVariants as word

-- own: the export of an audit that a word names
abbrev pub named_export : List ℕ → Result Export Stop
named_export text =
    if bytes_eq text (codes "dbx") then Ok exports.Dbx
    else if bytes_eq text (codes "shim") then Ok exports.Shim
    else if bytes_eq text (codes "db") then Ok exports.Db
    else if bytes_eq text (codes "level") then Ok exports.Level
    else Err (stops.Word word.Export)

-- the export, if there is one
abbrev pub some_export : Result Export Stop → Result (Option Export) Stop
some_export (Ok what) = Ok (Some what)
some_export (Err why) = Err why

-- own: the export that an audit writes: the one that its last word names, or none without that word
abbrev pub asked_export : Option (List ℕ) → Result (Option Export) Stop
asked_export None = Ok None
asked_export (Some text) = some_export (named_export text)
