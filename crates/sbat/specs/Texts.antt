-- SBAT text (shim's SBAT.md): where it ends, and its lines.
use Rattle.std.specs.Prelude.{ℕ, ◌==◌, if◌then◌else◌, List, [], ◌∷◌, take, drop}
use Rattle.std.specs.List.{before_first}
use Rattle.std.specs.Str.{bytes_eq}
use Rattle.base.specs.Lines.{Numbered, parted}

-- own: the bytes before the first zero byte, or all if there is none
abbrev pub before_zero : List ℕ → List ℕ
before_zero text = before_first (λ b. b == 0) text

-- the byte order mark of UTF-8, EF BB BF
abbrev pub mark : List ℕ
mark = 0xef ∷ 0xbb ∷ 0xbf ∷ []

-- own: the text without a byte order mark at its beginning
abbrev pub without_mark : List ℕ → List ℕ
without_mark text = if bytes_eq (take 3 text) mark then drop 3 text else text

-- the numbered nonempty lines of the text
abbrev pub rows_of : List ℕ → List Numbered
rows_of text = parted (without_mark (before_zero text))
