-- The rows of the table of refusals for a run of `follow`.
use Rattle.std.specs.Prelude.{◌≡◌, ◌⊎◌, ℕ}
use Rattle.base.specs.declared.refusal.Refusal.{Refusal}
use Rattle.base.specs.declared.refusal.Refusal.TheVariants as refusals
use Rattle.store_minutes.specs.Faults.{IsDeskFailure}
use Rattle.store_minutes.specs.Watches.{IsReadFault}
use Rattle.store_minutes.specs.declared.lines.LineWatch.{LineWatch}
use Rattle.cli_audit.specs.Faults.{wrong_line}
use Rattle.cli_output.specs.Faults.{IsRow}
use Rattle.cli_output.specs.declared.fault.Fault.{Fault}
use Rattle.cli_opening.specs.Faults.{IsFindingRefusal, IsOfOpening}

-- own: the refusals that only the finding or making of a desk gives
abbrev pub IsOfFinding : Refusal → Type 0
IsOfFinding refusal = IsOfOpening refusal ⊎ ((refusal ≡ refusals.Exists) ⊎ (refusal ≡ refusals.File))

-- own: a device failed the desk, a read of the watch failed, or the writer failed
abbrev pub IsRunRefusal : LineWatch → Refusal → Type 0
IsRunRefusal watch refusal = (IsDeskFailure refusal ⊎ IsReadFault watch refusal) ⊎ (refusal ≡ refusals.Write)

-- own: a line is wrong, and the place is its number; or one of these refusals, without a place
abbrev pub IsRunRow : LineWatch → Fault → Type 0
IsRunRow watch fault = ((n : ℕ) × (fault ≡ wrong_line n)) ⊎ IsRow (IsRunRefusal watch) fault

-- own: the rows for `follow`
abbrev pub IsFollowRow : LineWatch → Fault → Type 0
IsFollowRow watch fault = IsRow IsFindingRefusal fault ⊎ IsRunRow watch fault
