-- own: the memory of a watch over lines, and the refusals that it explains.
use Rattle.std.specs.Prelude.{◌≡◌, ◌⊎◌, true}
use Rattle.base.specs.declared.refusal.Refusal.{Refusal}
use Rattle.base.specs.declared.refusal.Refusal.TheVariants as refusals
use Rattle.store_minutes.specs.declared.lines.LineWatch.{LineWatch}

-- a read of the watch failed
abbrev pub HasFailed : LineWatch → Type 0
HasFailed watch = watch.failed ≡ true

-- memory was refused, or a read failed
abbrev pub IsReadFault : LineWatch → Refusal → Type 0
IsReadFault watch refusal = (refusal ≡ refusals.NoMemory) ⊎ ((refusal ≡ refusals.Read) × HasFailed watch)
