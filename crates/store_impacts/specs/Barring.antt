-- The images of an impact, told from entries. Auditors needn't believe these words.
use Rattle.std.specs.Prelude.{◌≡◌, ℕ, Bool, List, [], map, filter_map, Option, None, option_map, if◌then◌else◌}
use Rattle.std.specs.List.{AllByRecursion, Contains}
use Rattle.std.specs.Option.{option_map_or}
use Rattle.desk_types.specs.declared.facts.Facts.{Facts}
use Rattle.desk_history.specs.Calls.{History}
use Rattle.desk_history.specs.Images.{Image}
use Rattle.desk_history.specs.Impact.{allows, first_rule, impact_of, newly_barred_by, standing_of, would_force}
use Rattle.desk_history.specs.ImpactShown.{shown_barred}
use Rattle.desk_history.specs.Requests.{request, state}
use Rattle.desk_history.specs.Verdicts.{Standing, is_barred, verdict}
use Rattle.desk_history.specs.declared.impact.BarredImage.{BarredImage}
use Rattle.desk_history.specs.declared.impact.Rule.{Rule}
use Rattle.desk_history.specs.declared.rows.RequestRow.{RequestRow}
use Rattle.desk_rules.specs.Entries.{StandsAs}
use Rattle.store_impacts.specs.Touching.{Brought, brought, kept, touched}
use Rattle.store_impacts.specs.declared.barring.Finding.{Finding}
use Rattle.store_impacts.specs.declared.touched_image.TouchedImage.{TouchedImage}

-- the first rule of the entries that bars the image, if it isn't barred now
abbrev pub rule_by : Standing → History → Facts → Option Rule
rule_by entries cs x = if is_barred cs x then None else first_rule entries x

-- what is found of an image: whether it is allowed now, and the rule that would bar it
abbrev pub finding_by : Standing → History → Facts → Option Finding
finding_by entries cs x =
    option_map (λ rule. record { is_allowed = allows (verdict cs x); rule = rule }) (rule_by entries cs x)

-- the row is that of the request of this number
pub record Describes (cs : History) (k : ℕ) (row : RequestRow) : Type 0 where
  pub state : row.state ≡ state cs k
  pub submitter : row.submitter ≡ option_map_or (λ r. r.submitter) (request cs k) []
  pub title : row.title ≡ option_map_or (λ r. r.title) (request cs k) []

-- the image as it is shown, if it isn't barred and the entries bar it
abbrev pub barred_by : Standing → History → Image → Option BarredImage
barred_by entries cs m =
    option_map (λ rule. shown_barred (newly_barred_by cs m rule)) (rule_by entries cs m.facts)

-- these are facts of the image that the call of this number brought
abbrev pub AreFactsOf : ℕ → Facts → History → Type 0
AreFactsOf call facts cs =
    (b : Brought) → Contains (brought cs) b → b.call ≡ call → facts ≡ b.image.facts

-- it is what is shown of the image that is kept so
abbrev pub IsBarred : Standing → TouchedImage → Option BarredImage → History → Type 0
IsBarred entries image found cs =
    (b : Brought) → Contains (brought cs) b → kept b ≡ image → found ≡ barred_by entries cs b.image

-- they are what is shown of the images that are kept so
abbrev pub AreBarred : Standing → List TouchedImage → List BarredImage → History → Type 0
AreBarred entries images found cs =
    (bs : List Brought) → AllByRecursion (Contains (brought cs)) bs → map kept bs ≡ images
    → found ≡ filter_map (λ b. barred_by entries cs b.image) bs

-- where the entries of a proposal bar no image of the history by themselves, its impact bars none
abbrev pub UntouchedBarsNone : Type 0
UntouchedBarsNone =
    (entries : Standing) (cs : History) (k : ℕ) → StandsAs entries (standing_of (would_force cs k)) → [] ≡ touched entries cs
    → [] ≡ map shown_barred (impact_of cs k).bars
