-- The impact of a proposal as it is shown, and to whom.
use Rattle.std.specs.Prelude.{◌≡◌, ℕ, map, Result, Ok, Err}
use Rattle.base.specs.declared.refusal.Refusal.{Refusal}
use Rattle.desk_types.specs.declared.caller.Caller.{Caller}
use Rattle.desk_types.specs.declared.caller.Caller.TheVariants as callers
use Rattle.desk_types.specs.declared.command.Person.{Person}
use Rattle.desk_history.specs.Calls.{History}
use Rattle.desk_history.specs.Impact.{Impact, NewlyBarred, impact}
use Rattle.desk_history.specs.Shown.{IsGiven, officer, reader}
use Rattle.desk_history.specs.declared.impact.BarredImage.{BarredImage}
use Rattle.desk_history.specs.declared.impact.ShownImpact.{ShownImpact}

-- an image that would be barred, as it is shown: without its facts
abbrev pub shown_barred : NewlyBarred → BarredImage
shown_barred b = record {
  request = b.image.request;
  file = b.image.file;
  state = b.state;
  submitter = b.submitter;
  title = b.title;
  is_allowed = b.allowed;
  rule = b.rule;
}

-- all of the impact is shown, its images in the order of their calls
pub record ShowsImpact (w : Impact) (shown : ShownImpact) : Type 0 where
  pub bars : shown.bars.items ≡ map shown_barred w.bars
  pub adds : shown.adds ≡ w.adds
  pub dbx : shown.dbx ≡ w.dbx

-- the impact, for an officer
abbrev pub impact_to : Result Impact Refusal → Result Person Refusal → Result Impact Refusal
impact_to due (Ok p) = due
impact_to due (Err refusal) = Err refusal

-- the answer to a caller about the impact of one proposal. own: only officers are shown it, and the
-- console
abbrev pub impact_for : History → Caller → ℕ → Result Impact Refusal
impact_for cs callers.Console k = impact cs k
impact_for cs (callers.Person name) k = impact_to (impact cs k) (officer (reader cs (callers.Person name)))

-- the answer to a caller about the impact of this proposal
abbrev pub GivesImpact : History → Caller → ℕ → Result ShownImpact Refusal → Type 0
GivesImpact cs c k given = IsGiven (impact_for cs c k) given ShowsImpact
