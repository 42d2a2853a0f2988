-- The text of a level (shim's SBAT.md), as it is written.
use Rattle.std.specs.Prelude.{ℕ, List, [], ◌∷◌, ◌++◌, codes, decimal}
use Rattle.std.specs.FinMap.{entries}
use Rattle.sbat.specs.Levels.{Stamped}

-- the first line: `sbat`, generation 1, the stamp
abbrev pub head_text : ℕ → List ℕ
head_text stamp = codes "sbat,1," ++ decimal stamp ++ codes "\n"

-- one name with its generation
abbrev pub row_text : List ℕ → ℕ → List ℕ
row_text name generation = name ++ codes "," ++ decimal generation ++ codes "\n"

-- the lines of some names
abbrev pub rows_text : List (List ℕ × ℕ) → List ℕ
rows_text [] = []
rows_text (e ∷ es) = row_text e.0 e.1 ++ rows_text es

-- own: the first line, and a line for each of these names with its generation, in their order
abbrev pub level_lines : ℕ → List (List ℕ × ℕ) → List ℕ
level_lines stamp named = head_text stamp ++ rows_text named

-- own: the lines of a level, ascending by the names' bytes
abbrev pub level_text : Stamped → List ℕ
level_text l = level_lines l.stamp (entries l.generations)
