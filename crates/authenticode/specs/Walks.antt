-- Walks over bytes, a step at a time.
use Rattle.std.specs.Prelude.{◌≡◌, ℕ, zero, suc, List, [], ◌++◌}

-- the type of a step: `Step b own c` says that one step leads from the bytes b to the bytes c that
-- are left, and gives the items `own`
abbrev pub Stepping : Type 1
Stepping = List ℕ → List (List ℕ) → List ℕ → Type 0

-- this many steps lead from b to c, and these are the items that they give, in order
abbrev pub Reaches : Stepping → ℕ → List ℕ → List (List ℕ) → List ℕ → Type 0
Reaches Step zero b items c = (items ≡ []) × (b ≡ c)
Reaches Step (suc n) b items c =
    (own : List (List ℕ)) × (next : List ℕ) × (others : List (List ℕ))
    × Step b own next × Reaches Step n next others c × (items ≡ own ++ others)

-- a walk from b to c, and the items that it gives
pub record Walks (Step : Stepping) (b : List ℕ) (items : List (List ℕ)) (c : List ℕ) : Type 0 where
  pub count : ℕ
  pub steps : Reaches Step count b items c
