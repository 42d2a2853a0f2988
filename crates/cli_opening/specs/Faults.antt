-- The refusals of a desk's file.
use Rattle.std.specs.Prelude.{◌≡◌, ◌⊎◌}
use Rattle.base.specs.declared.refusal.Refusal.{Refusal}
use Rattle.base.specs.declared.refusal.Refusal.TheVariants as refusals
use Rattle.cli_output.specs.Faults.{IsFileRefusal}
use Rattle.store_reads.specs.Failures.{IsFailure}
use Rattle.store_desk.specs.Steps.{IsReadRefusal}

-- own: no desk is made: the file fails, a name of the desk's is taken in it, or a device fails
abbrev pub IsMakingRefusal : Refusal → Type 0
IsMakingRefusal refusal = IsFileRefusal refusal ⊎ ((refusal ≡ refusals.Exists) ⊎ IsFailure refusal)

-- own: no desk is opened: the file fails, it holds no known desk, or a device fails
abbrev pub IsOpeningRefusal : Refusal → Type 0
IsOpeningRefusal refusal = IsFileRefusal refusal ⊎ ((refusal ≡ refusals.Version) ⊎ IsReadRefusal refusal)

-- own: no desk of an owner is opened, or made where there is no table: there no name is taken
abbrev pub IsFindingRefusal : Refusal → Type 0
IsFindingRefusal refusal = IsOpeningRefusal refusal ⊎ (refusal ≡ refusals.Owner)

-- the refusals for a close that fails: a device's, or that the desk must be opened again
abbrev pub IsClosingRefusal : Refusal → Type 0
IsClosingRefusal refusal = IsFailure refusal ⊎ (refusal ≡ refusals.Reopen)

-- own: after these the desk must be opened again
abbrev pub IsLasting : Refusal → Type 0
IsLasting refusal = (refusal ≡ refusals.Store) ⊎ (refusal ≡ refusals.Reopen)

-- own: the refusals that only an opening gives
abbrev pub IsOfOpening : Refusal → Type 0
IsOfOpening refusal = (refusal ≡ refusals.NotADesk) ⊎ (refusal ≡ refusals.Version)
