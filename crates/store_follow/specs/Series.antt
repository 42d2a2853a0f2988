-- The lives of a run over minutes. A followed line is a call that was answered Ok with its reply. A run
-- adds two lives, of which one without calls is left out: one by the first rules, with the calls that
-- these accepted, and then one by the second.
use Rattle.std.specs.Prelude.{List, [], ◌∷◌, ◌++◌, filter, map}
use Rattle.desk_history.specs.Calls.{First, History, Item, Rules, Second, under}
use Rattle.desk_history.specs.Lives.{Answered, Event, Life, Opened, are_rules}
use Rattle.desk_history.specs.Replies.{reply_to}
use Rattle.store_desk.specs.Headline.{Seen}

-- an accepted call, as an event: it was answered Ok with its reply
abbrev pub answered : History → Item → Event
answered cs i = record { item = i; fate = Answered (reply_to cs i) }

-- the calls by which a history goes on from an earlier one, as events, the first of them first
abbrev pub events_after : History → List Item → List Event
events_after earlier [] = []
events_after earlier (i ∷ new) = events_after earlier new ++ answered (new ++ earlier) i ∷ []

-- the events whose calls these rules judged
abbrev pub events_by : Rules → List Event → List Event
events_by rules events = filter (λ e. are_rules rules e.item.rules) events

-- the life of an opened desk with these events; none without events
abbrev pub life_with : Rules → List Event → List Life
life_with rules [] = []
life_with rules (e ∷ events) = record { rules = rules; opening = Opened; events = e ∷ events } ∷ []

-- the same call, with the same fate, by the first rules
abbrev pub event_by_first : Event → Event
event_by_first e = record { item = under First e.item.call; fate = e.fate }

-- a life with the same calls and fates, by the first rules
abbrev pub life_by_first : Life → Life
life_by_first life = record { rules = First; opening = life.opening; events = map event_by_first life.events }

-- own: the lives before a run that followed these lines by the first rules. Such a line is followed
-- only while no call of the history was accepted by the second. Until then a desk by the second rules
-- has only repeated replies and refused calls, as one by the first may; so its life counts as one by
-- the first.
abbrev pub lives_before : List Life → List Event → List Life
lives_before before [] = before
lives_before before (e ∷ firsts) = map life_by_first before

-- the lives before, and then those of a run with these events
abbrev pub and_run : List Life → List Event → List Life
and_run before events =
    lives_before before (events_by First events) ++ (life_with First (events_by First events) ++ life_with Second (events_by Second events))

-- the seen history, and the events since, those of a run the last
abbrev pub and_run_since : Seen → List Event → Seen
and_run_since seen events = record { at = seen.at; since = seen.since ++ events }
