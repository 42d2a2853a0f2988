-- Lives of a desk, and the histories that stops may leave.
use Rattle.std.specs.Prelude.{◌≡◌, ◌⊎◌, Bool, true, false, ◌&&◌, if◌then◌else◌, IsTrue, List, [], ◌∷◌, ◌++◌, Some, flat_map}
use Rattle.std.specs.List.{list_all}
use Rattle.desk_types.specs.declared.command.Call.{Call}
use Rattle.desk_types.specs.declared.reply.Reply.{Reply}
use Rattle.desk_history.specs.Calls.{First, History, Item, Rules, Second, item}
use Rattle.desk_history.specs.declared.rows.Minute.{Minute}
use Rattle.desk_types.specs.CommandTexts.{text_of}
use Rattle.desk_history.specs.Runs.{earlier, next_item, reply_in, ruling}

-- The fate of a call: it was answered Ok with a reply, it was refused, or it was stopped. A call
-- answered with the failure of the store counts as stopped.
pub data Fate : Type 0 where
  Answered : Reply → Fate
  Refused : Fate
  Stopped : Fate

-- a call with the rules that judged it, and its fate
pub record Event : Type 0 where
  pub item : Item
  pub fate : Fate

-- a history that a stop during an item's call leaves: the one before it, or the one after it
abbrev pub LeavesEither : History → Item → History → Type 0
LeavesEither cs i later = (later ≡ cs) ⊎ (later ≡ next_item cs i)

-- a history that a stop during a call leaves
abbrev pub IsLeft : History → Call → History → Type 0
IsLeft cs c later = LeavesEither cs (item c) later

-- the histories that an event may leave
abbrev pub MayTurn : History → Item → Fate → History → Type 0
MayTurn cs i (Answered reply) later = (reply_in (ruling cs i) ≡ Some reply) × (later ≡ next_item cs i)
MayTurn cs i Refused later = later ≡ cs
MayTurn cs i Stopped later = LeavesEither cs i later

-- the histories that events may leave, the first of them first
abbrev pub MayLeave : History → List Event → History → Type 0
MayLeave cs [] end = end ≡ cs
MayLeave cs (e ∷ events) end = (later : History) × MayTurn cs e.item e.fate later × MayLeave later events end

-- both are the same rules
abbrev pub are_rules : Rules → Rules → Bool
are_rules First First = true
are_rules Second Second = true
are_rules _ _ = false

-- each call was judged by these rules
abbrev pub are_by : Rules → List Event → Bool
are_by rules events = list_all (λ e. are_rules rules e.item.rules) events

-- the call was refused
abbrev pub is_refused : Event → Bool
is_refused e = elim e.fate [ Answered reply ↦ false | Refused ↦ true | Stopped ↦ false ]

-- no event
abbrev pub is_empty : List Event → Bool
is_empty [] = true
is_empty (e ∷ events) = false

-- after a stop each call is refused, until the desk is opened again
abbrev pub ends_at_a_stop : List Event → Bool
ends_at_a_stop [] = true
ends_at_a_stop (e ∷ events) =
    elim e.fate [
      | Answered reply ↦ ends_at_a_stop events
      | Refused ↦ ends_at_a_stop events
      | Stopped ↦ list_all is_refused events
    ]

-- the outcome of an opening of the desk: it answered Ok, or it was refused or stopped
pub data Opening : Type 0 where
  Opened : Opening
  NotOpened : Opening

-- A life of a desk: the rules of its program, its opening, and the calls from then on.
pub record Life : Type 0 where
  pub rules : Rules
  pub opening : Opening
  pub events : List Event

-- a desk that isn't open has no calls; each call is judged by the rules of the program
abbrev pub is_life : Life → Bool
is_life life =
    are_by life.rules life.events
    && elim life.opening [ Opened ↦ ends_at_a_stop life.events | NotOpened ↦ is_empty life.events ]

-- the life's rules are the second
abbrev pub is_second_life : Life → Bool
is_second_life life = are_rules Second life.rules

-- a program of the second rules opened the desk
abbrev pub is_opened_by_second : Life → Bool
is_opened_by_second life = elim life.opening [ Opened ↦ is_second_life life | NotOpened ↦ false ]

-- own: no life by the first rules follows one of an opened desk by the second
abbrev pub are_in_order : List Life → Bool
are_in_order [] = true
are_in_order (life ∷ lives) = (if is_opened_by_second life then list_all is_second_life lives else true) && are_in_order lives

-- the events of lives, one life after another
abbrev pub events_of : List Life → List Event
events_of lives = flat_map (λ life. life.events) lives

-- a series of lives, the first begun with a new desk, may leave this history
abbrev pub Ends : List Life → History → Type 0
Ends lives cs = IsTrue (list_all is_life lives) × IsTrue (are_in_order lives) × MayLeave [] (events_of lives) cs

-- In the events that led from a new desk to this history, the item's call was answered Ok with the
-- reply, and the desk's history was then `at`.
pub record WasAnswered (events : List Event) (cs : History) (i : Item) (reply : Reply) (at : History) : Type 0 where
  pub earlier : List Event
  pub later : List Event
  pub is : events ≡ earlier ++ record { item = i; fate = Answered reply } ∷ later
  pub before : History
  pub reached : MayLeave [] earlier before
  pub answered : MayTurn before i (Answered reply) at
  pub left : MayLeave at later cs

-- the minutes hold the caller's key with the call's text and this reply
pub record Holds (cs : History) (c : Call) (reply : Reply) : Type 0 where
  pub minute : Minute
  pub found : earlier cs c ≡ Some minute
  pub text : minute.text ≡ text_of c.command
  pub same : minute.reply ≡ reply
