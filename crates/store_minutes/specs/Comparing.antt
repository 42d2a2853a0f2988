-- The minutes of a desk, compared with bytes.
use Rattle.std.specs.Prelude.{◌≡◌, ◌≢◌, ◌⊎◌, ◌+◌, ℕ, List, [], ◌++◌, length, Option, Some}
use Rattle.std.specs.Io.KnownBytes.{Consumes}
use Rattle.sqlite.specs.Store.{Ghosts}
use Rattle.desk_exports.specs.Exports.{minutes_text}
use Rattle.desk_exports.specs.MinutesShown.{first_lines}
use Rattle.desk_minutes.specs.Follows.{EndsLine, IsOneLine}
use Rattle.store_shown.specs.Lines.{line_after}
use Rattle.store_desk.specs.Desks.{ShowsDesk}
use Rattle.store_desk.specs.declared.desk.Desk.{Desk}
use Rattle.store_minutes.specs.Starts.{Start}

-- The desk shows the earlier history of a start, and the reader has these bytes left of its bytes.
pub record Begins {S : Type 0} (g : Ghosts S) (desk : Desk S) (s : Start) (left : Option (List ℕ)) : Type 0 where
  pub shows : ShowsDesk g desk s.owner s.earlier
  pub left_is : left ≡ Some s.bytes

-- The minutes of the earlier history, of so many calls, are a beginning of the bytes, and these are
-- left of them.
pub record HasAll (s : Start) (calls : ℕ) (left : Option (List ℕ)) : Type 0 where
  pub count : length s.earlier ≡ calls
  pub given : Consumes (Some s.bytes) left (minutes_text s.earlier)

-- the bytes are the first lines of the earlier history's minutes
abbrev pub IsBeginning : Start → Type 0
IsBeginning s = (lines : ℕ) × (s.bytes ≡ first_lines s.earlier lines)

-- The line of this number is the first that differs: the lines before it are those of the earlier
-- history's minutes, and it isn't the next, which these have.
pub record DiffersAt (s : Start) (number : ℕ) : Type 0 where
  pub calls : ℕ
  pub count : number ≡ calls + 1
  pub line : List ℕ
  pub after : List ℕ
  pub parts : s.bytes ≡ first_lines s.earlier calls ++ line ++ after
  pub one : IsOneLine line
  pub ends : EndsLine line ⊎ (after ≡ [])
  pub more : line_after s.earlier calls ≢ []
  pub differs : line ≢ line_after s.earlier calls
