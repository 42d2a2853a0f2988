-- Audits of minutes.
use Rattle.std.specs.Prelude.{◌≡◌, ◌⊎◌, ◌+◌, ℕ, List, [], ◌++◌, length, Option}
use Rattle.std.specs.Io.KnownBytes.{Consumes}
use Rattle.sqlite.specs.Store.{Ghosts}
use Rattle.desk_history.specs.Calls.{History}
use Rattle.desk_exports.specs.Exports.{minutes_text}
use Rattle.desk_minutes.specs.Follows.{EndsLine, Follows, IsOneLine, NoneGoesThrough}
use Rattle.desk_minutes.specs.Minuted.{as_minuted}
use Rattle.store_desk.specs.Desks.{ShowsDesk}
use Rattle.store_desk.specs.declared.desk.Desk.{Desk}

-- The desk shows a history of so many calls whose minutes the reader gave, as they tell it: it had
-- these bytes left, and has those now.
pub record HasFollowed {S : Type 0} (g : Ghosts S) (desk : Desk S) (owner : List ℕ) (calls : ℕ) (old new : Option (List ℕ)) : Type 0 where
  pub history : History
  pub shows : ShowsDesk g desk owner history
  pub minuted : as_minuted history ≡ history
  pub count : length history ≡ calls
  pub given : Consumes old new (minutes_text history)

-- Of the bytes the line of this number is wrong: there is a history whose minutes are the lines
-- before it, and none whose minutes go on with it.
pub record IsWrongAt (bytes : List ℕ) (number : ℕ) : Type 0 where
  pub history : History
  pub before : List ℕ
  pub line : List ℕ
  pub after : List ℕ
  pub parts : bytes ≡ before ++ line ++ after
  pub follows : Follows before history
  pub count : number ≡ length history + 1
  pub one : IsOneLine line
  pub ends : EndsLine line ⊎ (after ≡ [])
  pub none : NoneGoesThrough before line
