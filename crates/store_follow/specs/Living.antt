-- What a run over minutes leaves in a series of a desk's lives.
use Rattle.std.specs.Prelude.{◌≡◌, ◌⊎◌, ℕ, All, List, [], ◌++◌, IsTrue}
use Rattle.sqlite.specs.Held.{Held, state}
use Rattle.sqlite.specs.State.{State, HasCleanDisk}
use Rattle.sqlite.specs.Store.{Ghosts}
use Rattle.sqlite.specs.Tree.{Trees}
use Rattle.desk_history.specs.Calls.{Item}
use Rattle.desk_history.specs.Formed.{IsItem}
use Rattle.desk_history.specs.Lives.{Ends, Event, Life, events_of}
use Rattle.store_schema.specs.rows.Histories.{HoldsHistory}
use Rattle.store_sql.specs.States.{Leaves}
use Rattle.store_desk.specs.Headline.{IsRecovered, IsSince, Recovers, Seen}
use Rattle.store_desk.specs.Living.{LivesOn, and_now}
use Rattle.store_desk.specs.declared.desk.Desk.{Desk}
use Rattle.store_minutes.specs.Starts.{BeginsWith, Start}
use Rattle.store_follow.specs.Runs.{HasRun, HoldsRun, IsWrongLine, LeavesRun}
use Rattle.store_follow.specs.Series.{and_run, and_run_since, events_after}

-- these lives may leave the history that a run began with, and it follows the seen one
pub record LeadsTo (before : List Life) (seen : Seen) (s : Start) : Type 0 where
  pub ends : Ends before s.earlier
  pub since : IsSince seen s.earlier

-- nothing was followed, or the bytes begin with the minutes of the history after these calls
abbrev pub IsFollowed : Start → List Item → Type 0
IsFollowed s new = (new ≡ []) ⊎ BeginsWith s.bytes (new ++ s.earlier)

module _ (s : Start) (before : List Life) (seen : Seen) where
  -- the lives before, and those of a run that followed these calls, the newest first
  abbrev pub lives_with : List Item → List Life
  lives_with new = and_run before (events_after s.earlier new)

  -- the seen history, the events since, and these calls
  abbrev pub seen_with : List Item → Seen
  seen_with new = and_run_since seen (events_after s.earlier new)

  -- The trees hold the tables of a history that the lives with a run may leave, and that follows the
  -- seen one: the run followed these calls, each of them answered Ok.
  pub record HoldsRunLives (db : Trees) : Type 0 where
    pub new : List Item
    pub followed : IsFollowed s new
    pub ends : Ends (lives_with new) (new ++ s.earlier)
    pub since : IsSince (seen_with new) (new ++ s.earlier)
    pub holds : HoldsHistory db s.owner (new ++ s.earlier)

  -- a stop leaves such tables
  abbrev pub LeavesRunLives : State → Type 0
  LeavesRunLives at = Leaves at HoldsRunLives

  module _ {S : Type 0} (g : Ghosts S) (desk : Desk S) where
    -- The desk lives on after a run that followed these calls.
    pub record LivesOnAfterRun : Type 0 where
      pub new : List Item
      pub followed : IsFollowed s new
      pub lives : LivesOn g desk s.owner (lives_with new) [] (new ++ s.earlier)
      pub since : IsSince (seen_with new) (new ++ s.earlier)

    -- The desk was opened after a run that followed these calls, and after any stop. Its history is
    -- the earlier one with these calls. It has each call that was acknowledged before the run. How
    -- many lines the stop left isn't said here.
    pub record IsRecoveredAfterRun : Type 0 where
      pub new : List Item
      pub followed : IsFollowed s new
      pub recovered : IsRecovered g desk s.owner (lives_with new) (seen_with new) (new ++ s.earlier)

-- the connection has tables that a run may leave as its last commit
abbrev pub FindsRun : State → Start → Type 0
FindsRun at s = HasCleanDisk at → IsTrue at.is_open → ∥ HoldsRun at.committed.trees s ∥₁

-- ---- laws

-- a stop after a run leaves what lives with the run may leave
abbrev pub RunsMayStop : {S : Type 0} → Ghosts S → Held S → Type 0
RunsMayStop g conn =
    (s : Start) (before : List Life) (seen : Seen) → LeadsTo before seen s → LeavesRun (state g conn) s
    → LeavesRunLives s before seen (state g conn)

module _ {S : Type 0} (g : Ghosts S) where
  -- a desk that lives on may begin a run; a new one does (`openings_begin_lives` of store_desk)
  abbrev pub RunsBegin : Desk S → Type 0
  RunsBegin desk =
      (s : Start) (before : List Life) (events : List Event) (seen : Seen) → LivesOn g desk s.owner before events s.earlier
      → IsSince seen s.earlier → LeadsTo (and_now before events) seen s

  -- it lives on after a run that followed all lines
  abbrev pub RunsLiveOn : Desk S → Type 0
  RunsLiveOn desk =
      (s : Start) (before : List Life) (seen : Seen) → LeadsTo before seen s → (calls : ℕ) → HasRun g desk s calls
      → LivesOnAfterRun s before seen g desk

  -- and after one that met a wrong line
  abbrev pub WrongRunsLiveOn : Desk S → Desk S → Type 0
  WrongRunsLiveOn old desk =
      (s : Start) (before : List Life) (seen : Seen) → LeadsTo before seen s → (number : ℕ) → IsWrongLine g old desk s number
      → LivesOnAfterRun s before seen g desk

  -- Whatever a run left, with the stop that it met, a desk that `Recovers` over it has such a
  -- history. The call that opens it tells that the connection was clean and open (`stopped` and
  -- `read` of `Desk::open`). `∥ .. ∥₁` says that there is one, but not which.
  abbrev pub RecoversRuns : Held S → Desk S → Type 0
  RecoversRuns conn desk =
      HasCleanDisk (state g conn) → IsTrue (state g conn).is_open → Recovers g conn desk
      → (s : Start) (before : List Life) (seen : Seen) → All (λ e. IsItem e.item) (events_of before) → LeadsTo before seen s
      → FindsRun (state g conn) s → ∥ IsRecoveredAfterRun s before seen g desk ∥₁
