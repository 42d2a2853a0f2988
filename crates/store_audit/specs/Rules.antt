-- Minutes whose first lines are by the first rules, and whose others are by the second.
use Rattle.std.specs.Prelude.{◌≡◌, ◌+◌, ℕ, List, length, Option, Some}
use Rattle.std.specs.Io.KnownBytes.{Consumes, IsAtEnd}
use Rattle.sqlite.specs.Store.{Ghosts}
use Rattle.desk_history.specs.Calls.{GoesOnFrom, History}
use Rattle.desk_exports.specs.Exports.{minutes_text}
use Rattle.store_desk.specs.declared.desk.Desk.{Desk}
use Rattle.store_first_rules.specs.Desks.{ShowsFirstDesk}
use Rattle.store_first_rules.specs.declared.desk.FirstDesk.{FirstDesk}
use Rattle.store_minutes.specs.Lines.{TakesLine}
use Rattle.store_minutes.specs.Starts.{HasFollowedAfter, Start}
use Rattle.store_audit.specs.Following.{TellsSecond}
use Rattle.store_audit.specs.declared.auditing.FirstEnd.{FirstEnd}
use Rattle.store_audit.specs.declared.auditing.FirstEnd.TheVariants.{All, Before}

-- The desk shows a history of so many calls by the first rules, which goes on from the earlier one
-- and whose minutes the reader gave.
pub record HasFollowedFirst {S : Type 0} (g : Ghosts S) (desk : FirstDesk S) (s : Start) (calls : ℕ) (left : Option (List ℕ)) : Type 0 where
  pub history : History
  pub shows : ShowsFirstDesk g desk s.owner history
  pub goes_on : GoesOnFrom s.earlier history
  pub count : length history ≡ calls
  pub given : Consumes (Some s.bytes) left (minutes_text history)

-- The reader gave the line of this number, the next after so many, which only the second rules give.
pub record TakesSecond (number : ℕ) (line : List ℕ) (calls : ℕ) (old new : Option (List ℕ)) : Type 0 where
  pub is_next : number ≡ calls + 1
  pub takes : TakesLine old new line
  pub tells : TellsSecond number line

-- so many lines were followed, which are all, or the reader gave then a line that only the second
-- rules give
abbrev pub EndsAt : (ℕ → Option (List ℕ) → Type 0) → FirstEnd → Option (List ℕ) → List ℕ → Type 0
EndsAt followed (All calls) left line = (mid : Option (List ℕ)) × followed calls mid × IsAtEnd mid
EndsAt followed (Before number) left line =
    (calls : ℕ) × (mid : Option (List ℕ)) × followed calls mid × TakesSecond number line calls mid left

module _ {S : Type 0} (g : Ghosts S) where
  -- the desk has followed the lines by the first rules
  abbrev pub HasBegun : FirstDesk S → Start → FirstEnd → Option (List ℕ) → List ℕ → Type 0
  HasBegun desk s end left line = EndsAt (λ calls mid. HasFollowedFirst g desk s calls mid) end left line

  -- so does a desk that goes on by the second rules
  abbrev pub HasTurned : Desk S → Start → FirstEnd → Option (List ℕ) → List ℕ → Type 0
  HasTurned desk s end left line = EndsAt (λ calls mid. HasFollowedAfter g desk s calls mid) end left line
