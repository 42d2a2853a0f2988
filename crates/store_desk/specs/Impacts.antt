-- The impact of a proposal, asked of an open desk.
use Rattle.std.specs.Prelude.{◌≡◌, ◌≢◌, ◌⊎◌, ℕ, List, IsTrue, Some, None, Result, MatchResult, map}
use Rattle.base.specs.declared.refusal.Refusal.{Refusal}
use Rattle.base.specs.declared.refusal.Refusal.TheVariants as refusals
use Rattle.desk_types.specs.declared.caller.Caller.{Caller}
use Rattle.desk_history.specs.Calls.{History}
use Rattle.desk_types.specs.declared.command.Command.TheVariants as command
use Rattle.desk_history.specs.Impact.{Impact, impact_of, impact_refusal, standing_of, would_force}
use Rattle.desk_history.specs.ImpactShown.{impact_for, shown_barred}
use Rattle.desk_history.specs.Runs.{is_legal}
use Rattle.desk_history.specs.Shown.{IsGiven}
use Rattle.desk_history.specs.Tables.{tables}
use Rattle.desk_history.specs.declared.impact.BarredImage.{BarredImage}
use Rattle.desk_history.specs.Called.{called}
use Rattle.desk_rules.specs.Shown.{Shows}
use Rattle.desk_rules.specs.declared.view.View.{View}
use Rattle.store_reads.specs.Failures.{IsFailure}
use Rattle.store_shown.specs.Telling.{IsOfficerRefusal}
use Rattle.store_impacts.specs.Touching.{touched}
use Rattle.store_impacts.specs.declared.touched_image.TouchedImage.{TouchedImage}
use Rattle.store_decision_rows.specs.Confirming.{to_confirm}
use Rattle.store_decision_rows.specs.sizes.Sizes.{AreRight}
use Rattle.desk_rules.specs.Entries.{StandsAs, held_standing}
use Rattle.desk_rules.specs.Foreseen.{may_foresee}
use Rattle.store_desk.specs.declared.impacts.Outlook.{Outlook}
use Rattle.store_desk.specs.declared.impacts.Told.{Told}
use Rattle.store_desk.specs.declared.questions.Viewed.{Viewed}
use Rattle.desk_rules.specs.declared.entries.Entries.{Entries}

-- own: the caller isn't shown impacts, another officer's Confirm would be refused, or a device
-- failed
abbrev pub IsImpactRefusal : Refusal → Type 0
IsImpactRefusal refusal =
    IsOfficerRefusal refusal ⊎ (IsTrue (may_foresee refusal) ⊎ IsFailure refusal)

-- what holds where the answer is one of the history: unless a device failed
abbrev pub OnAnswer : {A : Type 0} → Result A Refusal → Type 0 → Type 0
OnAnswer result P =
    MatchResult result (λ _. P) (λ refusal. refusal ≢ refusals.NoMemory → refusal ≢ refusals.Store → P)

-- own: the caller isn't shown impacts, or another officer's Confirm would be refused
abbrev pub IsAnswer : Refusal → Type 0
IsAnswer refusal = IsOfficerRefusal refusal ⊎ IsTrue (may_foresee refusal)

-- ---- the steps; auditors needn't believe these words

-- what is known of the impact before the images are looked for
pub record Foretells (cs : History) (k : ℕ) (w : Impact) (outlook : Outlook) : Type 0 where
  pub whole : w ≡ impact_of cs k
  pub adds : outlook.foreseen.adds ≡ w.adds
  pub dbx : outlook.foreseen.dbx ≡ w.dbx
  pub entries : StandsAs (held_standing outlook.entries) (standing_of (would_force cs k))

-- the answer to a caller, but for the images
abbrev pub GivesOutlook : History → Caller → ℕ → Result Outlook Refusal → Type 0
GivesOutlook cs c k given = IsGiven (impact_for cs c k) given (Foretells cs k)

-- they are the images of the impact, if the entries are those of the proposal and these are the
-- images that they bar by themselves
abbrev pub AreBarredBy : Entries → List TouchedImage → List BarredImage → History → Type 0
AreBarredBy entries images found cs =
    (k : ℕ) → StandsAs (held_standing entries) (standing_of (would_force cs k))
    → images ≡ touched (held_standing entries) cs → found ≡ map shown_barred (impact_of cs k).bars

-- the view is one for a Confirm of the proposal, whoever gives it, and the sizes are right
abbrev pub ShowsConfirm : Viewed → ℕ → List ℕ → History → Type 0
ShowsConfirm viewed k owner cs =
    Shows viewed.view (tables owner cs) (to_confirm k) × AreRight viewed.sizes (tables owner cs)

-- the answer to the caller, but for the images, and the sizes are right
abbrev pub TellsOutlook : History → Caller → ℕ → List ℕ → Told → Type 0
TellsOutlook cs c k owner told =
    GivesOutlook cs c k told.given × AreRight told.sizes (tables owner cs)

-- on each legal history that the view shows for a Confirm of the proposal, what is known of the
-- impact, or why another officer can't confirm it; or memory ran out
abbrev pub LooksAhead : View → ℕ → Result Outlook Refusal → Type 0
LooksAhead v k result =
    (owner : List ℕ) (cs : History) (caller : Caller) (key : List ℕ) → IsTrue (is_legal cs)
    → Shows v (tables owner cs) (called caller key (command.Confirm k))
    → MatchResult result (λ o. (impact_refusal cs k ≡ None) × Foretells cs k (impact_of cs k) o)
    (λ refusal. (impact_refusal cs k ≡ Some refusal) ⊎ (refusal ≡ refusals.NoMemory))
