-- A desk that goes on with minutes from a history that it had.
use Rattle.std.specs.Prelude.{◌≡◌, ◌⊎◌, ◌+◌, ℕ, List, [], ◌++◌, length, Option, Some, false, true}
use Rattle.std.specs.List.{list_all}
use Rattle.std.specs.Io.KnownBytes.{Consumes}
use Rattle.sqlite.specs.State.{State}
use Rattle.sqlite.specs.Store.{Ghosts}
use Rattle.sqlite.specs.Tree.{Trees}
use Rattle.desk_history.specs.Calls.{GoesOnFrom, History, is_first}
use Rattle.desk_history.specs.Formed.{IsHistory}
use Rattle.desk_exports.specs.Exports.{minutes_text}
use Rattle.desk_minutes.specs.Follows.{EndsLine, HasNoNext, IsOneLine}
use Rattle.desk_minutes.specs.Minuted.{as_minuted, shows_second}
use Rattle.store_schema.specs.rows.Histories.{HoldsHistory}
use Rattle.store_sql.specs.States.{Leaves}
use Rattle.store_desk.specs.Desks.{ShowsDesk}
use Rattle.store_desk.specs.declared.desk.Desk.{Desk}

-- Where a desk began to follow minutes: its owner, its history then, and the bytes of the minutes
-- from their first line.
pub record Start : Type 0 where
  pub owner : List ℕ
  pub earlier : History
  pub bytes : List ℕ

-- The desk shows a history of so many calls which goes on from the earlier one and whose minutes the
-- reader gave, which has these bytes left now. If the earlier one was as its minutes tell it, so is
-- this one.
pub record HasFollowedAfter {S : Type 0} (g : Ghosts S) (desk : Desk S) (s : Start) (calls : ℕ) (left : Option (List ℕ)) : Type 0 where
  pub history : History
  pub shows : ShowsDesk g desk s.owner history
  pub goes_on : GoesOnFrom s.earlier history
  pub minuted : as_minuted s.earlier ≡ s.earlier → as_minuted history ≡ history
  pub count : length history ≡ calls
  pub given : Consumes (Some s.bytes) left (minutes_text history)

-- The desk has followed minutes, and some call of its history was accepted by the second rules. If
-- the earlier history was as its minutes tell it, only these rules give some line.
pub record HasFollowedSecond {S : Type 0} (g : Ghosts S) (desk : Desk S) (s : Start) (calls : ℕ) (left : Option (List ℕ)) : Type 0 where
  pub followed : HasFollowedAfter g desk s calls left
  pub past : list_all is_first followed.history ≡ false
  pub second : as_minuted s.earlier ≡ s.earlier → shows_second followed.history ≡ true

-- The line of this number is wrong: a history that goes on from the earlier one has the lines before
-- it as its minutes, is shown so, and no call that may come next, by either rules, has this line.
pub record IsWrongAfter (shown : History → Type 0) (s : Start) (number : ℕ) : Type 0 where
  pub history : History
  pub shows : shown history
  pub legal : IsHistory history
  pub goes_on : GoesOnFrom s.earlier history
  pub minuted : as_minuted s.earlier ≡ s.earlier → as_minuted history ≡ history
  pub line : List ℕ
  pub after : List ℕ
  pub parts : s.bytes ≡ minutes_text history ++ line ++ after
  pub count : number ≡ length history + 1
  pub one : IsOneLine line
  pub ends : EndsLine line ⊎ (after ≡ [])
  pub none : HasNoNext history line

-- the bytes begin with the minutes of the history
abbrev pub BeginsWith : List ℕ → History → Type 0
BeginsWith bytes cs = (rest : List ℕ) × (bytes ≡ minutes_text cs ++ rest)

-- The trees hold a history that goes on from the earlier one, and whose minutes are a beginning of
-- the bytes.
pub record HoldsFollowed (db : Trees) (s : Start) : Type 0 where
  pub history : History
  pub legal : IsHistory history
  pub goes_on : GoesOnFrom s.earlier history
  pub begins : BeginsWith s.bytes history
  pub holds : HoldsHistory db s.owner history

-- a stop leaves such a history
abbrev pub LeavesFollowed : State → Start → Type 0
LeavesFollowed state s = Leaves state (λ db. HoldsFollowed db s)
