-- The lines and the outcome of an impact, by what is shown of it.
use Rattle.std.proofs.Common.{◌≡◌, ◌∙◌, ℕ, Bool, List, [], ◌∷◌, ◌++◌, map, Result, Ok, Err, ap, refl, inl, inr, true, false}
use Rattle.std.specs.Prelude.{◌||◌, MatchResult, if◌then◌else◌}
use Rattle.std.specs.List.{flat_map, list_any}
use Rattle.base.specs.declared.refusal.Refusal.{Refusal}
use Rattle.desk_history.specs.Impact.{Impact, NewlyBarred}
use Rattle.desk_history.specs.ImpactShown.{ShowsImpact, shown_barred}
use Rattle.desk_history.specs.declared.impact.BarredImage.{BarredImage}
use Rattle.desk_history.specs.declared.impact.ShownImpact.{ShownImpact}
use Rattle.cli_output.specs.ImpactLines.{barred_line, dbx_line, impact_lines}
use Rattle.cli_output.specs.declared.ending.WorkOutcome.{WorkOutcome}
use Rattle.cli_output.specs.declared.ending.WorkOutcome.TheVariants.{Done, Refused}
use Rattle.base.specs.declared.refusal.Refusal.TheVariants as refusals
use Rattle.store_desk.specs.Impacts.{IsImpactRefusal}
use Rattle.cli_commands.specs.Faults.{IsForetellingRefusal}
use Rattle.cli_commands.specs.Works.{impact_outcome, lines_of_impact, shown_outcome}

-- what is shown of an impact has its lines
shown_lines : (w : Impact) (shown : ShownImpact) → ShowsImpact w shown → impact_lines shown ≡ lines_of_impact (Ok w)
shown_lines w shown is =
    ap (λ (bars : List BarredImage). flat_map barred_line bars ++ dbx_line shown.dbx) is.bars
    ∙ ap (λ (n : ℕ). flat_map barred_line (map shown_barred w.bars) ++ dbx_line n) is.dbx

-- so do the lines that are due, if this is shown
pub due_lines : (due : Result Impact Refusal) (shown : ShownImpact) → MatchResult due (λ w. ShowsImpact w shown) (λ _. ⊥)
    → impact_lines shown ≡ lines_of_impact due
due_lines (Ok w) shown is = shown_lines w shown is
due_lines (Err refusal) shown is = absurd is

-- an image that is shown as allowed is allowed
any_allowed : (bars : List NewlyBarred) → list_any (λ (b : BarredImage). b.is_allowed) (map shown_barred bars) ≡ list_any (λ (b : NewlyBarred). b.allowed) bars
any_allowed [] = refl
any_allowed (b ∷ bs) = ap (λ (t : Bool). b.allowed || t) (any_allowed bs)

-- the outcome of what is shown
abbrev outcome_by : Bool → WorkOutcome
outcome_by any = if any then Refused else Done

pub due_outcome : (due : Result Impact Refusal) (shown : ShownImpact) (outcome : WorkOutcome) → MatchResult due (λ w. ShowsImpact w shown) (λ _. ⊥)
    → outcome ≡ shown_outcome shown
    → (w : Impact) × (due ≡ Ok w) × (outcome ≡ impact_outcome w)
due_outcome (Ok w) shown outcome is told =
    (w, refl, told ∙ ap (λ (bars : List BarredImage). outcome_by (list_any (λ (b : BarredImage). b.is_allowed) bars)) is.bars ∙ ap outcome_by (any_allowed w.bars))
due_outcome (Err refusal) shown outcome is told = absurd is

-- what stops an impact, by a desk that may need to be opened again
pub foretelling_named : (closed : Bool) (r : Refusal) → (closed ≡ false → IsImpactRefusal r) → (closed ≡ true → r ≡ refusals.Reopen) → IsForetellingRefusal r
foretelling_named true r usable reopen = inl (reopen refl)
foretelling_named false r usable reopen = inr (inl (usable refl))
