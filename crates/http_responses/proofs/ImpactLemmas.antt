-- The text of an impact is its pieces.
use Rattle.std.proofs.Common.{◌≡◌, ◌∙◌, ℕ, List, ◌++◌, codes, refl, append_assoc}
use Rattle.serde_json.proofs.OnLiterals.{serde_json_on_literals}
use Rattle.serde_json.specs.Written.{compact_text}
use Rattle.desk_history.specs.declared.impact.ShownImpact.{ShownImpact}
use Rattle.http_responses.specs.json.ImpactPieces.{after_bars, before_bars}
use Rattle.http_responses.specs.json.Impacts.{adds_data, bars_data, impact_data}

-- a text in front of a longer one
in_front : (lead adds comma rest : List ℕ) → (lead ++ (adds ++ comma)) ++ rest ≡ lead ++ (adds ++ (comma ++ rest))
in_front lead adds comma rest = simp append_assoc

-- what stands before the images, the images, and what stands after them
pub impact_text : (number : ℕ) (impact : ShownImpact)
    → before_bars impact.adds ++ (compact_text (bars_data impact.bars.items) ++ after_bars impact.dbx number) ≡ compact_text (impact_data number impact)
unfolding serde_json_on_literals
impact_text number impact =
    in_front (codes "{\"adds\":") (compact_text (adds_data impact.adds)) (codes ",\"bars\":") (compact_text (bars_data impact.bars.items) ++ after_bars impact.dbx number)
    ∙ refl
