-- The refusals that a read may give.
use Rattle.std.specs.Prelude.{◌≡◌, ◌⊎◌}
use Rattle.base.specs.declared.refusal.Refusal.{Refusal}
use Rattle.base.specs.declared.refusal.Refusal.TheVariants as refusals

-- the refusal names a device
abbrev pub IsFailure : Refusal → Type 0
IsFailure refusal = (refusal ≡ refusals.NoMemory) ⊎ (refusal ≡ refusals.Store)
