-- Connections that are served, and a request that is answered, as events of a desk's life.
use Rattle.std.specs.Prelude.{◌≡◌, ◌⊎◌, ℕ, true, All, List, ◌++◌, Option, Result}
use Rattle.sqlite.specs.Held.{state}
use Rattle.sqlite.specs.State.{HasCleanDisk}
use Rattle.sqlite.specs.Store as store
use Rattle.desk_history.specs.Calls.{History}
use Rattle.desk_history.specs.Formed.{IsItem}
use Rattle.desk_history.specs.Lives.{Event, Life}
use Rattle.http_exchange.specs.Living.{AddsEvents}
use Rattle.http_exchange.specs.declared.served.HttpFault.{HttpFault}
use Rattle.http_exchange.specs.declared.served.Served.{Served}
use Rattle.http_net.specs.Living.{AddEach}
use Rattle.http_net.specs.Turns.{AreServed}
use Rattle.store_desk.specs.Headline.{IsSince, LeavesLives, Seen}
use Rattle.store_desk.specs.Living.{LivesOn, and_now}
use Rattle.store_desk.specs.declared.desk.Desk.{Desk}
use Rattle.cli_requests.specs.Desks.{AnswersRequest, ServesRequest}

-- the seen history and events, and then these
abbrev pub and_also : Seen → List Event → Seen
and_also seen more = record { at = seen.at; since = seen.since ++ more }

module _ {S : Type 0} (g : store.Ghosts S) (desk : Desk S) where
  -- The desk after its life went on with these events, each of a call in its forms. It lives on, with
  -- this history; or it has to be opened again. In either case a stop leaves a history that the lives
  -- with these events may leave, and that follows the seen one.
  pub record GoesOnWith (owner : List ℕ) (before : List Life) (events : List Event) (seen : Seen) (more : List Event) (last : History) : Type 0 where
    pub formed : All (λ e. IsItem e.item) more
    pub on : LivesOn g desk owner before (events ++ more) last ⊎ (desk.needs_reopening ≡ true)
    pub stopped : LeavesLives (state g desk.conn) owner (and_now before (events ++ more)) (and_also seen more)

module _ {S : Type 0} (g : store.Ghosts S) (old new : Desk S) where
  -- whatever the lives before: a desk that lives on does this
  abbrev WheneverLiving : (List ℕ → List Life → List Event → Seen → History → Type 0) → Type 0
  WheneverLiving does =
      (owner : List ℕ) (before : List Life) (events : List Event) (seen : Seen) (cs : History)
      → LivesOn g old owner before events cs → IsSince seen cs → HasCleanDisk (state g new.conn) → does owner before events seen cs

  -- Connections that were served add events to the desk's life, each at most one. A response that is
  -- a reply to a command is that of an event that was answered with this reply.
  abbrev pub LivesThrough : Type 0
  LivesThrough = WheneverLiving (λ owner before events seen cs.
      (all : List (Result Served HttpFault)) × AreServed (ServesRequest g) all old new
      × (more : List Event) × (last : History) × AddEach cs all more last × GoesOnWith g new owner before events seen more last)

  -- so does the one request of an input
  abbrev pub LivesThroughOne : (input before after : Option (List ℕ)) → Type 0
  LivesThroughOne input held holds = WheneverLiving (λ owner before events seen cs.
      (result : Result Served HttpFault) × AnswersRequest g input held holds old new result
      × (more : List Event) × (last : History) × AddsEvents cs input held holds result more × GoesOnWith g new owner before events seen more last)

  -- served connections make lives
  abbrev pub ConnectionsMakeLives : Type 0
  ConnectionsMakeLives = (all : List (Result Served HttpFault)) → AreServed (ServesRequest g) all old new → LivesThrough

  -- so does a request
  abbrev pub RequestsMakeLives : Type 0
  RequestsMakeLives =
      (input held holds : Option (List ℕ)) (result : Result Served HttpFault)
      → AnswersRequest g input held holds old new result → LivesThroughOne input held holds
