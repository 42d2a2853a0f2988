-- own: exchanges as events of a desk's life, in the words of `AnswersCalls`.
use Rattle.std.specs.Prelude.{◌≡◌, ◌⊎◌, ℕ, Bool, true, false, All, List, [], ◌∷◌, Option, Result, IsTrue}
use Rattle.std.specs.List.{list_all}
use Rattle.desk_types.specs.Formed.{IsCall}
use Rattle.desk_types.specs.declared.command.Call.{Call as Ruled}
use Rattle.desk_types.specs.declared.reply.Reply.{Reply}
use Rattle.desk_history.specs.Calls.{History, item}
use Rattle.desk_history.specs.Lives.{Answered, Event, MayLeave, Refused, Stopped, ends_at_a_stop}
use Rattle.http_calls.specs.declared.answers.TaskAnswer.{TaskAnswer}
use Rattle.http_calls.specs.declared.answers.TaskAnswer.TheVariants as answer
use Rattle.http_exchange.specs.Serving.{AnswersOne, IsAskedIn, Responds, WhenAnswered}
use Rattle.http_exchange.specs.declared.served.HttpFault.{HttpFault}
use Rattle.http_exchange.specs.declared.served.Served.{Served}

-- the call was answered with this reply
abbrev pub answered_with : Ruled → Reply → Event
answered_with c reply = record { item = item c; fate = Answered reply }

-- the call was stopped: the store failed in it
abbrev pub stopped : Ruled → Event
stopped c = record { item = item c; fate = Stopped }

-- the event is that of a call in its forms, which the input asks for
abbrev pub IsEventOf : History → Option (List ℕ) → Event → Type 0
IsEventOf cs input e = (c : Ruled) × (e.item ≡ item c) × IsCall c × IsAskedIn cs input c

-- The events that one exchange adds to the life of a desk of this history: none, or that of the call
-- that the input asks for. If the response that was written whole is a reply, the event is that the
-- call was answered with this reply.
pub record AddsEvents (cs : History) (input held holds : Option (List ℕ)) (result : Result Served HttpFault) (events : List Event) : Type 0 where
  pub told : TaskAnswer
  pub responds : WhenAnswered result (Responds held holds told)
  pub replied : (reply : Reply) → told ≡ answer.Reply reply → (c : Ruled) × (events ≡ answered_with c reply ∷ [])
  pub asked : All (IsEventOf cs input) events

-- the call wasn't stopped
abbrev pub is_told : Event → Bool
is_told e = elim e.fate [ Answered reply ↦ true | Refused ↦ true | Stopped ↦ false ]

module _ {D : Type 0} (shows : D → List ℕ → History → Type 0) (failed : D → Type 0) (leaves : D → List ℕ → History → History → Type 0) where
  -- The desk after these events, which began at the history `from`: none was stopped, and it shows
  -- the history that they left; or it has failed in the last, and a stop leaves one of two histories
  -- that they may leave.
  pub record StandsAfter (desk : D) (owner : List ℕ) (from : History) (events : List Event) (cs : History) : Type 0 where
    pub left : MayLeave from events cs
    pub stands : (IsTrue (list_all is_told events) × shows desk owner cs)
        ⊎ (failed desk × IsTrue (ends_at_a_stop events)
        × (other : History) × MayLeave from events other × leaves desk owner cs other)

module _ {D : Type 0} (shows : D → List ℕ → History → Type 0) (clean failed : D → Type 0) (leaves : D → List ℕ → History → History → Type 0) (old new : D) where
  -- one exchange of a desk that shows a history adds such events, and the desk stands so after them
  abbrev pub ExchangesAddEvents : Type 0
  ExchangesAddEvents =
      (owner : List ℕ) (cs : History) (input held holds : Option (List ℕ)) (result : Result Served HttpFault)
      → AnswersOne shows clean failed leaves input held holds old new result → clean new → shows old owner cs
      → (events : List Event) × (later : History)
      × AddsEvents cs input held holds result events × StandsAfter shows failed leaves new owner cs events later

  -- one of a desk that has failed adds none, and doesn't change the desk
  abbrev pub FailedAddNone : Type 0
  FailedAddNone =
      (cs : History) (input held holds : Option (List ℕ)) (result : Result Served HttpFault)
      → AnswersOne shows clean failed leaves input held holds old new result → failed old
      → AddsEvents cs input held holds result [] × (new ≡ old)
