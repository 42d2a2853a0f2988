-- own: connections that are served one after another, as events of the desk's life.
use Rattle.std.specs.Prelude.{◌≡◌, ℕ, List, [], ◌∷◌, ◌++◌, Option, Result}
use Rattle.base.specs.declared.refusal.Refusal.{Refusal}
use Rattle.desk_history.specs.Calls.{History}
use Rattle.desk_history.specs.Lives.{Event, MayLeave}
use Rattle.http_exchange.specs.Living.{AddsEvents, StandsAfter}
use Rattle.http_exchange.specs.declared.served.HttpFault.{HttpFault}
use Rattle.http_exchange.specs.declared.served.Served.{Served}
use Rattle.http_net.specs.Turns.{AreServed, ServesInTurn}
use Rattle.http_net.specs.Wire.{IsOneRequest}

-- one connection with some input, over some writer, added these events
abbrev pub AddsSome : History → Result Served HttpFault → List Event → Type 0
AddsSome cs served events =
    (input : Option (List ℕ)) × (held : Option (List ℕ)) × (holds : Option (List ℕ)) × AddsEvents cs input held holds served events

-- connections with these outcomes added these events to a desk of the history `cs`, each its own,
-- and `last` is the history after them
abbrev pub AddEach : History → List (Result Served HttpFault) → List Event → History → Type 0
AddEach cs [] events last = (events ≡ []) × (last ≡ cs)
AddEach cs (served ∷ more) events last =
    (own : List Event) × (rest : List Event) × (later : History)
    × AddsSome cs served own × MayLeave cs own later × (events ≡ own ++ rest) × AddEach later more rest last

module _ {D : Type 0} (shows : D → List ℕ → History → Type 0) (clean failed : D → Type 0) (leaves : D → List ℕ → History → History → Type 0) (old new : D) where
  -- connections with these outcomes added such events, and the desk stands so after them
  abbrev pub AddTo : List ℕ → History → List (Result Served HttpFault) → Type 0
  AddTo owner cs all =
      (events : List Event) × (last : History) × AddEach cs all events last × StandsAfter shows failed leaves new owner cs events last

  -- connections that a desk served, one after another, add events to its life
  abbrev pub RunsAddEvents : Type 0
  RunsAddEvents =
      (owner : List ℕ) (cs : History) (all : List (Result Served HttpFault))
      → AreServed (IsOneRequest shows clean failed leaves) all old new → clean new → shows old owner cs → AddTo owner cs all

  -- the same, by the clause of `serve`
  abbrev pub TurnsAddEvents : Type 0
  TurnsAddEvents =
      (owner : List ℕ) (cs : History) (count : ℕ) (told : Result Unit Refusal)
      → ServesInTurn (IsOneRequest shows clean failed leaves) count old new told → clean new → shows old owner cs
      → (all : List (Result Served HttpFault)) × AreServed (IsOneRequest shows clean failed leaves) all old new × AddTo owner cs all
