-- The effect of a step of the walk on a list of digests, and its faults.
use Rattle.std.specs.Prelude.{◌≡◌, List, ◌++◌, ℕ, map, ⊤}
use Rattle.sha2.specs.Sha256.{sha256}
use Rattle.authenticode.specs.Walks.{Stepping}
use Rattle.authenticode.specs.declared.fault.CarriedFault.{CarriedFault}
use Rattle.authenticode.specs.declared.fault.CarriedFault.TheVariants as fault

-- one step from b to c was made, and the SHA-256 of each of its items added to a list
pub record AddsStep (Step : Stepping) (b c : List ℕ) (old new : List (List ℕ)) : Type 0 where
  pub own : List (List ℕ)
  pub step : Step b own c
  pub added : new ≡ old ++ map sha256 own

-- the SHA-256 of each of these items was added to a list
pub record AddsAll (Items : List (List ℕ) → Type 0) (old new : List (List ℕ)) : Type 0 where
  pub items : List (List ℕ)
  pub are : Items items
  pub added : new ≡ old ++ map sha256 items

-- Der comes only where this holds, NoMemory at any time, and no other fault at all
abbrev pub IsDerOnlyWhere : Type 0 → CarriedFault → Type 0
IsDerOnlyWhere P fault.Table = ⊥
IsDerOnlyWhere P fault.Der = P
IsDerOnlyWhere P fault.TooLong = ⊥
IsDerOnlyWhere P fault.NoMemory = ⊤
