-- The lines of an audit.
use Rattle.std.specs.Prelude.{ℕ, List, ◌++◌, codes, decimal, length}
use Rattle.hex.specs.Hex.{encode_lower}
use Rattle.sha2.specs.Sha256.{sha256}
use Rattle.desk_history.specs.Calls.{History}
use Rattle.desk_exports.specs.Exports.{exported}
use Rattle.desk_exports.specs.declared.export.Export.TheVariants as exports
use Rattle.cli_audit.specs.declared.summary.Summary.{Summary}

-- own: what an audit tells of a history's minutes: how many lines they have, their SHA-256, and that
-- of each export of a desk with this owner
abbrev pub told_of : List ℕ → History → Summary
told_of owner cs = record {
  calls = length cs;
  minutes = sha256 (exported exports.Minutes owner cs);
  dbx = sha256 (exported exports.Dbx owner cs);
  db = sha256 (exported exports.Db owner cs);
  level = sha256 (exported exports.Level owner cs);
}

-- own: `calls N`, `minutes HEX`, `dbx HEX`, `db HEX` and `level HEX`
unfoldable pub told_lines : Summary → List ℕ
told_lines told =
    codes "calls " ++ decimal told.calls ++ codes "\nminutes " ++ encode_lower told.minutes
    ++ codes "\ndbx " ++ encode_lower told.dbx ++ codes "\ndb " ++ encode_lower told.db
    ++ codes "\nlevel " ++ encode_lower told.level ++ codes "\n"

-- the lines of an audit
abbrev pub audit_lines : List ℕ → History → List ℕ
audit_lines owner cs = told_lines (told_of owner cs)
