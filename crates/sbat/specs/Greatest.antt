-- The generation that counts among several.
use Rattle.std.specs.Prelude.{ℕ, ◌≤◌, List, Option, Some, None}
use Rattle.std.specs.List.{Contains}
use Rattle.sbat.specs.Rows.{Row}

-- the generation is that of a row with this name, and no such row has a greater one
pub record IsGreatestOf (rows : List Row) (name : List ℕ) (n : ℕ) : Type 0 where
  pub given : Contains rows (record { name = name; generation = n })
  pub most : (m : ℕ) → Contains rows (record { name = name; generation = m }) → m ≤ n

-- the generation that counts for a name: the greatest that the rows give it, or none if none does
abbrev pub IsGreatest : List Row → List ℕ → Option ℕ → Type 0
IsGreatest rows name None = (m : ℕ) → Contains rows (record { name = name; generation = m }) → ⊥
IsGreatest rows name (Some n) = IsGreatestOf rows name n
