-- own: the number of changes in JSON.
use Rattle.std.specs.Prelude.{ℕ, [], ◌∷◌, codes}
use Rattle.serde_json.specs.Data.{Data}
use Rattle.http_responses.specs.json.Values.{object_from, whole}

-- a number that changes whenever what the caller is shown of requests or proposals changed
abbrev pub changes_data : ℕ → Data
changes_data changes = object_from ((codes "changes", whole changes) ∷ [])
