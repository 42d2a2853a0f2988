-- The text of an impact, in the pieces in which it is written.
use Rattle.std.specs.Prelude.{ℕ, List, ◌++◌, codes, decimal}
use Rattle.serde_json.specs.Written.{compact_text}
use Rattle.desk_types.specs.declared.reply.Counts.{Counts}
use Rattle.http_responses.specs.json.Impacts.{adds_data}

-- before its images
abbrev pub before_bars : Counts → List ℕ
before_bars counts = codes "{\"adds\":" ++ (compact_text (adds_data counts) ++ codes ",\"bars\":")

-- after its images
abbrev pub after_bars : ℕ → ℕ → List ℕ
after_bars dbx number =
    codes ",\"dbx\":" ++ (decimal dbx ++ (codes ",\"proposal\":" ++ (decimal number ++ codes "}")))
