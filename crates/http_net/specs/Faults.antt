-- Refusals that stop a serving program.
use Rattle.std.specs.Prelude.{◌≡◌, ◌⊎◌}
use Rattle.base.specs.declared.refusal.Refusal.{Refusal}
use Rattle.base.specs.declared.refusal.Refusal.TheVariants as refusals

-- own: the desk must be opened again
abbrev pub IsLasting : Refusal → Type 0
IsLasting refusal = (refusal ≡ refusals.Store) ⊎ (refusal ≡ refusals.Reopen)

-- own: the refusals that stop a program that answers one request: those, or a fault of the request
-- itself
abbrev pub IsAnsweringRefusal : Refusal → Type 0
IsAnsweringRefusal refusal =
    IsLasting refusal
    ⊎ ((refusal ≡ refusals.Read) ⊎ ((refusal ≡ refusals.Write) ⊎ (refusal ≡ refusals.NoMemory)))

-- own: the refusals that end a program that serves one connection after another: those, or that no
-- connection came
abbrev pub IsServingRefusal : Refusal → Type 0
IsServingRefusal refusal = IsLasting refusal ⊎ (refusal ≡ refusals.Read)
