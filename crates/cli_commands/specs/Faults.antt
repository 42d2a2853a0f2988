-- The faults of a subcommand on an open desk.
use Rattle.std.specs.Prelude.{◌≡◌, ◌⊎◌}
use Rattle.base.specs.declared.refusal.Refusal.{Refusal}
use Rattle.base.specs.declared.refusal.Refusal.TheVariants as refusals
use Rattle.store_desk.specs.Desks.{IsCallRefusal}
use Rattle.store_desk.specs.Impacts.{IsImpactRefusal}
use Rattle.store_exports.specs.Faults.{IsExportFailure}

-- the refusals that stop a call of the console, or its line
abbrev pub IsAddingRefusal : Refusal → Type 0
IsAddingRefusal refusal = (refusal ≡ refusals.Reopen) ⊎ (IsCallRefusal refusal ⊎ (refusal ≡ refusals.Write))

-- the refusals that stop an export
abbrev pub IsWritingRefusal : Refusal → Type 0
IsWritingRefusal refusal = (refusal ≡ refusals.Reopen) ⊎ IsExportFailure refusal

-- the refusals that stop an impact, or its lines
abbrev pub IsForetellingRefusal : Refusal → Type 0
IsForetellingRefusal refusal = (refusal ≡ refusals.Reopen) ⊎ (IsImpactRefusal refusal ⊎ (refusal ≡ refusals.Write))
