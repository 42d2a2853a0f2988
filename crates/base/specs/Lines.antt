-- The lines of a text (shim's SBAT.md), each with its number.
use Rattle.std.specs.Prelude.{ℕ, ◌+◌, ◌==◌, ◌&&◌, Bool, false, if◌then◌else◌, List, [], ◌∷◌, Option, Some, None, Result, Ok, Err}
use Rattle.std.specs.List.{onto_first}
use Rattle.base.specs.declared.line.Line.{Line}

-- the list begins with b
abbrev pub begins_with : ℕ → List ℕ → Bool
begins_with b [] = false
begins_with b (x ∷ xs) = x == b

-- own: LF (10) alone ends a line, and one CR (13) is dropped only before an LF
abbrev pub lines_of : List ℕ → List (List ℕ)
lines_of [] = [] ∷ []
lines_of (b ∷ bs) =
    if b == 10 then [] ∷ lines_of bs
    else if b == 13 && begins_with 10 bs then lines_of bs
    else onto_first b (lines_of bs)

-- a line and its number
pub record Numbered : Type 0 where
  pub number : ℕ
  pub text : List ℕ

-- own: the lines with their numbers from n on; an empty line is counted and left out
abbrev pub numbered_from : ℕ → List (List ℕ) → List Numbered
numbered_from n [] = []
numbered_from n ([] ∷ lines) = numbered_from (n + 1) lines
numbered_from n ((b ∷ bs) ∷ lines) = record { number = n; text = b ∷ bs } ∷ numbered_from (n + 1) lines

-- the numbered lines of a text
abbrev pub parted : List ℕ → List Numbered
parted t = numbered_from 1 (lines_of t)

-- the value of a borrowed line
abbrev pub line_of : Line → Numbered
line_of l = record { number = l.number; text = l.text.now }

-- x before the results so far, unless they name a wrong line
abbrev pub put_first : {X : Type 0} → X → Result (List X) ℕ → Result (List X) ℕ
put_first x (Ok xs) = Ok (x ∷ xs)
put_first x (Err line) = Err line

-- the item that the line with this number names, before those of the rest
abbrev pub named_at : {X : Type 0} → ℕ → Option X → Result (List X) ℕ → Result (List X) ℕ
named_at line None rest = Err line
named_at line (Some x) rest = put_first x rest

-- own: the items that the lines name, in order, or the number of the first line that names none
abbrev pub named_in : {X : Type 0} → (List ℕ → Option X) → List Numbered → Result (List X) ℕ
named_in name [] = Ok []
named_in name (l ∷ ls) = named_at l.number (name l.text) (named_in name ls)
