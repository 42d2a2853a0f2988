-- own: the impact of a proposal in JSON, the keys of each object ascending.
use Rattle.std.specs.Prelude.{ℕ, List, [], ◌∷◌, codes, map}
use Rattle.serde_json.specs.Data.{Data, array, boolean, string}
use Rattle.serde_json.specs.View.{items_of}
use Rattle.desk_types.specs.Words.{state_text}
use Rattle.desk_types.specs.declared.reply.Counts.{Counts}
use Rattle.desk_history.specs.Files.{file_text}
use Rattle.desk_history.specs.declared.impact.BarredImage.{BarredImage}
use Rattle.desk_history.specs.declared.impact.Rule.{Rule}
use Rattle.desk_history.specs.declared.impact.Rule.TheVariants as rules
use Rattle.desk_history.specs.declared.impact.ShownImpact.{ShownImpact}
use Rattle.http_responses.specs.json.Values.{object_from, whole}
use Rattle.http_responses.specs.json.Verdicts.{below_data, said}

-- the rule that would bar an image, in the form of its verdict then
abbrev pub rule_data : Rule → Data
rule_data rules.Digest = said (codes "dbx-digest")
rule_data rules.Certificate = said (codes "dbx-certificate")
rule_data (rules.Component component needed) = below_data needed component

-- an image that would be barred
abbrev pub barred_data : BarredImage → Data
barred_data b = object_from (
    (codes "allowed", boolean b.is_allowed)
    ∷ (codes "by", rule_data b.rule)
    ∷ (codes "file", string (file_text b.file))
    ∷ (codes "request", whole b.request)
    ∷ (codes "state", string (state_text b.state))
    ∷ (codes "submitter", string b.submitter)
    ∷ (codes "title", string b.title)
    ∷ [])

-- images that would be barred, in their order
abbrev pub bars_data : List BarredImage → Data
bars_data bars = array (items_of (map barred_data bars))

-- the counts of what would be added
abbrev pub adds_data : Counts → Data
adds_data counts = object_from (
    (codes "certificates", whole counts.certificates)
    ∷ (codes "components", whole counts.components)
    ∷ (codes "digests", whole counts.digests)
    ∷ [])

-- the impact of the proposal of this number
abbrev pub impact_data : ℕ → ShownImpact → Data
impact_data number impact = object_from (
    (codes "adds", adds_data impact.adds)
    ∷ (codes "bars", bars_data impact.bars.items)
    ∷ (codes "dbx", whole impact.dbx)
    ∷ (codes "proposal", whole number)
    ∷ [])
