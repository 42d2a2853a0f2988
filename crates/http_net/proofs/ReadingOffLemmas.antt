-- Bytes read off piece by piece.
use Rattle.std.proofs.Common.{◌≡◌, ℕ, ◌+◌, ◌-◌, ◌≤◌, List, ◌++◌, Option, arith, length, length-append, length-take, take}
use Rattle.std.proofs.KnownBytes.{Consumes-trans}
use Rattle.std.specs.Io.KnownBytes.{Consumes}

-- a piece more
pub read_more : (most rest count : ℕ) (old mid new : Option (List ℕ))
    → (bs : List ℕ) × Consumes old mid bs × (length bs + rest ≡ most)
    → (bs : List ℕ) × Consumes mid new bs × (length bs ≡ count)
    → count ≤ rest → (bs : List ℕ) × Consumes old new bs × (length bs + (rest - count) ≡ most)
read_more most rest count old mid new so_far piece fits =
    let sum = length-append so_far.0 piece.0 in
    (so_far.0 ++ piece.0, Consumes-trans old mid new so_far.0 piece.0 so_far.1 piece.1, omega (arith, sum, so_far.2, piece.2, fits))

-- no more than there is room for
pub fits_room : (count room rest : ℕ) (buf : List ℕ) → count ≤ length (take room buf) → room ≤ rest → count ≤ rest
fits_room count room rest buf within less = omega (arith, length-take room buf, within, less)
