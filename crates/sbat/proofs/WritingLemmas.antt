-- The lines of a level.
use Rattle.std.proofs.Common.{◌≡◌, ℕ, List, [], ◌∷◌, ◌++◌, refl, ap}
use Rattle.std.specs.List.{flat_map}
use Rattle.sbat.specs.Writing.{row_text, rows_text}

-- the lines of some names are the line of each
pub rows_text-lines : (es : List (List ℕ × ℕ)) → rows_text es ≡ flat_map (λ e. row_text e.0 e.1) es
rows_text-lines [] = refl
rows_text-lines (e ∷ es) = ap (λ l. row_text e.0 e.1 ++ l) (rows_text-lines es)
