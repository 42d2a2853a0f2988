-- Lives of a desk, as its openings and calls make them.
use Rattle.std.specs.Prelude.{◌≢◌, ℕ, Bool, true, false, List, [], ◌∷◌, ◌++◌, IsTrue}
use Rattle.std.specs.List.{list_all}
use Rattle.sqlite.specs.Store.{Ghosts}
use Rattle.sqlite.specs.Held.{state}
use Rattle.base.specs.declared.refusal.Refusal.{Refusal}
use Rattle.base.specs.declared.refusal.Refusal.TheVariants as refusals
use Rattle.desk_types.specs.declared.command.Call.{Call}
use Rattle.desk_types.specs.declared.reply.Reply.{Reply}
use Rattle.desk_history.specs.Calls.{History, Second, item}
use Rattle.desk_history.specs.Runs.{next}
use Rattle.desk_history.specs.Lives.{Answered, Ends, Event, Fate, Life, NotOpened, Opened, Refused, Stopped}
use Rattle.store_desk.specs.Desks.{MayStop, Refuses, Replies, ShowsDesk}
use Rattle.store_desk.specs.Headline.{IsSince, IsRecovered, LeavesLives, Seen}
use Rattle.store_desk.specs.declared.desk.Desk.{Desk}

-- these lives, and that of a desk that was opened after them and had these events
abbrev pub and_now : List Life → List Event → List Life
and_now before events = before ++ record { rules = Second; opening = Opened; events = events } ∷ []

-- these lives, and one that wasn't opened: its opening was refused or stopped
abbrev pub and_refused : List Life → List Life
and_refused before = before ++ record { rules = Second; opening = NotOpened; events = [] } ∷ []

-- the events, and then this call
abbrev pub and_then : List Event → Call → Fate → List Event
and_then events c fate = events ++ record { item = item c; fate = fate } ∷ []

-- the call wasn't stopped
abbrev pub is_told : Event → Bool
is_told e = elim e.fate [ Answered reply ↦ true | Refused ↦ true | Stopped ↦ false ]

-- the seen history and events, and then this call, which was stopped
abbrev pub and_stopped : Seen → Call → Seen
and_stopped seen c = record { at = seen.at; since = and_then seen.since c Stopped }

-- The desk answers for this history, which these lives may leave. The last life is its own, and has
-- met no stop yet.
pub record LivesOn {S : Type 0} (g : Ghosts S) (desk : Desk S) (owner : List ℕ) (before : List Life) (events : List Event) (cs : History) : Type 0 where
  pub told : IsTrue (list_all is_told events)
  pub ends : Ends (and_now before events) cs
  pub shows : ShowsDesk g desk owner cs

module _ {S : Type 0} (g : Ghosts S) (desk : Desk S) where
  -- a new desk begins the first life
  abbrev pub BeginsLiving : Type 0
  BeginsLiving = (owner : List ℕ) → ShowsDesk g desk owner [] → LivesOn g desk owner [] [] []

  -- a desk that was opened begins the next
  abbrev pub LivesAgain : Type 0
  LivesAgain =
      (owner : List ℕ) (lives : List Life) (seen : Seen) (cs : History) → IsRecovered g desk owner lives seen cs
      → LivesOn g desk owner lives [] cs

  -- Whenever no call is running, a stop leaves a history that the lives may leave and that follows
  -- the seen one.
  abbrev pub MayStopLiving : Type 0
  MayStopLiving =
      (owner : List ℕ) (before : List Life) (events : List Event) (seen : Seen) (cs : History) → LivesOn g desk owner before events cs
      → IsSince seen cs → LeavesLives (state g desk.conn) owner (and_now before events) seen

module _ {S : Type 0} (g : Ghosts S) (old new : Desk S) where
  -- a call that is answered Ok or refused adds an event to the desk's life
  abbrev pub GoesOnLiving : Type 0
  GoesOnLiving =
      (owner : List ℕ) (before : List Life) (events : List Event) (cs : History) (c : Call) → LivesOn g old owner before events cs
      → ((reply : Reply) → Replies g old new c reply → LivesOn g new owner before (and_then events c (Answered reply)) (next cs c))
      × ((refusal : Refusal) → refusal ≢ refusals.Store → Refuses g old new c refusal → LivesOn g new owner before (and_then events c Refused) cs)

  -- Whatever the call's outcome, a stop leaves a history that the lives may leave in which the call
  -- was stopped, and that follows the seen one.
  abbrev pub MayEndLiving : Type 0
  MayEndLiving =
      (owner : List ℕ) (before : List Life) (events : List Event) (seen : Seen) (cs : History) (c : Call) → LivesOn g old owner before events cs
      → IsSince seen cs → MayStop g old new c
      → LeavesLives (state g new.conn) owner (and_now before (and_then events c Stopped)) (and_stopped seen c)
