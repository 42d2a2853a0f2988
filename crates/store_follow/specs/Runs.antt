-- A run over minutes on a desk that has a history.
use Rattle.std.specs.Prelude.{◌≡◌, ◌⊎◌, ℕ, [], length, Some}
use Rattle.sqlite.specs.State.{State}
use Rattle.sqlite.specs.Store.{Ghosts}
use Rattle.sqlite.specs.Tree.{Trees}
use Rattle.store_schema.specs.rows.Histories.{HoldsHistory}
use Rattle.store_sql.specs.States.{Leaves, Spares}
use Rattle.store_desk.specs.Desks.{ShowsDesk}
use Rattle.store_desk.specs.declared.desk.Desk.{Desk}
use Rattle.store_minutes.specs.Starts.{HasFollowedAfter, HoldsFollowed, IsWrongAfter, Start}
use Rattle.store_minutes.specs.Comparing.{DiffersAt, IsBeginning}

-- the trees hold the earlier history, or one that goes on from it and whose minutes are a beginning of
-- the bytes
abbrev pub HoldsRun : Trees → Start → Type 0
HoldsRun db s = HoldsHistory db s.owner s.earlier ⊎ HoldsFollowed db s

-- a stop leaves such a history
abbrev pub LeavesRun : State → Start → Type 0
LeavesRun state s = Leaves state (λ db. HoldsRun db s)

module _ {S : Type 0} (g : Ghosts S) where
  -- The desk shows its earlier history, of so many calls, and the bytes are a beginning of its minutes.
  pub record IsAhead (desk : Desk S) (s : Start) (calls : ℕ) : Type 0 where
    pub shows : ShowsDesk g desk s.owner s.earlier
    pub count : length s.earlier ≡ calls
    pub beginning : IsBeginning s

  -- a desk of so many calls has followed the bytes, or they are a beginning of its minutes
  abbrev pub HasRun : Desk S → Start → ℕ → Type 0
  HasRun desk s calls = HasFollowedAfter g desk s calls (Some []) ⊎ IsAhead desk s calls

  -- The line of this number differs from that of the desk, which shows its earlier history, and
  -- nothing was committed.
  pub record IsOtherAt (old desk : Desk S) (s : Start) (number : ℕ) : Type 0 where
    pub differs : DiffersAt s number
    pub shows : ShowsDesk g desk s.owner s.earlier
    pub spares : Spares g old.conn desk.conn

  -- it does, or it is a line after those of the desk and no call that may come next has it
  abbrev pub IsWrongLine : Desk S → Desk S → Start → ℕ → Type 0
  IsWrongLine old desk s number = IsOtherAt old desk s number ⊎ IsWrongAfter (ShowsDesk g desk s.owner) s number
