-- A row by its columns.
use Rattle.std.proofs.Common.{◌≡◌, ℕ, suc, [], ◌∷◌, length, refl, ap₂, arith}
use Rattle.sqlite.specs.Order.{Row}
use Rattle.sqlite_value.specs.Order.{column}

-- from this place on the row has these columns and no other
abbrev pub HasColumns : Row → ℕ → Row → Type 0
HasColumns row at [] = length row ≡ at
HasColumns row at (v ∷ vs) = (column row at ≡ v) × HasColumns row (suc at) vs

shifted : (x : _) (row : Row) (at : ℕ) (vs : Row) → HasColumns (x ∷ row) (suc at) vs → HasColumns row at vs
shifted x row at [] h = omega (arith, h)
shifted x row at (v ∷ vs) h = (h.0, shifted x row (suc at) vs h.1)

none_more : (at : ℕ) (vs : Row) → HasColumns [] (suc at) vs → ⊥
none_more at [] h = absurd (omega (arith, h))
none_more at (v ∷ vs) h = none_more (suc at) vs h.1

pub whole_row : (vs row : Row) → HasColumns row 0 vs → row ≡ vs
whole_row [] [] h = refl
whole_row [] (x ∷ row) h = absurd (omega (arith, h))
whole_row (v ∷ vs) [] h = absurd (none_more 0 vs h.1)
whole_row (v ∷ vs) (x ∷ row) h = ap₂ (λ a b. a ∷ b) h.0 (whole_row vs row (shifted x row 0 vs h.1))
