-- Lines of a reader.
use Rattle.std.specs.Prelude.{◌≡◌, ◌≢◌, ◌⊎◌, ◌<◌, ℕ, Bool, true, false, List, [], ◌++◌, All, Option, IfSome, OnSome, length}
use Rattle.std.specs.Io.{StopsAt}
use Rattle.std.specs.Io.KnownBytes.{Consumes, IsAtEnd}
use Rattle.desk_minutes.specs.Follows.{EndsLine, IsOneLine}

-- The reader, that had these bytes left and has those now, gave a line: up to the next line break,
-- with it, or all that were left.
pub record TakesLine (old new : Option (List ℕ)) (line : List ℕ) : Type 0 where
  pub one : IsOneLine line
  pub taken : Consumes old new line
  pub ends : IfSome old (λ _. IfSome new (λ rest. EndsLine line ⊎ (rest ≡ [])))

-- The reader gave bytes that go on with a line, up to the line break that ends it, or without one;
-- at the end it gave none.
pub record TakesPiece (old new : Option (List ℕ)) (before after : List ℕ) (done : Bool) : Type 0 where
  pub piece : List ℕ
  pub is : after ≡ before ++ piece
  pub taken : Consumes old new piece
  pub stops : StopsAt piece 10
  pub goes_on : done ≡ false → (0 < length piece) × All (λ byte. byte ≢ 10) piece
  pub ends : done ≡ true → EndsLine piece ⊎ ((piece ≡ []) × OnSome old (IsAtEnd new))
