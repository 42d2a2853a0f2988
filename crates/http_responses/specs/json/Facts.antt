-- own: the facts of an image in JSON, the keys ascending.
use Rattle.std.specs.Prelude.{[], ◌∷◌, codes}
use Rattle.serde_json.specs.Data.{Data}
use Rattle.desk_types.specs.declared.facts.Facts.{Facts}
use Rattle.http_responses.specs.json.Values.{object_from, whole, digest_data, digests_data, components_data}

-- facts
abbrev pub facts_data : Facts → Data
facts_data x = object_from (
    (codes "carried", digests_data x.carried)
    ∷ (codes "components", components_data x.components)
    ∷ (codes "digest", digest_data x.digest)
    ∷ (codes "file", digest_data x.file)
    ∷ (codes "gap", whole x.extent.gap)
    ∷ (codes "length", whole x.extent.length)
    ∷ (codes "signing", digest_data x.signing)
    ∷ [])
