-- own: a verdict in JSON, the keys of each object ascending.
use Rattle.std.specs.Prelude.{◌≡◌, ℕ, List, [], ◌∷◌, Option, Some, is_some, option_map, true, codes, slice_get}
use Rattle.serde_json.specs.Data.{Data, string}
use Rattle.sbat.specs.declared.component.Component.{Component}
use Rattle.desk_types.specs.declared.facts.Facts.{Facts}
use Rattle.desk_history.specs.Verdicts.{Standing, verdict_on}
use Rattle.desk_history.specs.declared.finding.Verdict.{Verdict}
use Rattle.desk_history.specs.declared.finding.Verdict.TheVariants.{Allowed, DbxCertificate, DbxDigest, NotListed, Sbat}
use Rattle.http_responses.specs.json.Values.{object_from, whole}

-- a verdict of one word
abbrev pub said : List ℕ → Data
said word = object_from ((codes "verdict", string word) ∷ [])

-- a component below the level, and the generation that the level requires of it
abbrev pub below_data : ℕ → Component → Data
below_data level c = object_from (
    (codes "component", string c.name)
    ∷ (codes "generation", whole c.generation)
    ∷ (codes "level", whole level)
    ∷ (codes "verdict", string (codes "sbat"))
    ∷ [])

-- a verdict on an image of these components; none where it names a place without a component
abbrev pub verdict_data : List Component → Verdict → Option Data
verdict_data components DbxDigest = Some (said (codes "dbx-digest"))
verdict_data components DbxCertificate = Some (said (codes "dbx-certificate"))
verdict_data components NotListed = Some (said (codes "not-listed"))
verdict_data components (Sbat below) =
    option_map (below_data below.needs) (slice_get components below.place)
verdict_data components Allowed = Some (said (codes "allowed"))

-- no verdict on an image names a place without a component, whatever the lists and the level
abbrev pub EachVerdictIsSaid : Type 0
EachVerdictIsSaid =
    (s : Standing) (x : Facts) → is_some (verdict_data x.components (verdict_on s x)) ≡ true
