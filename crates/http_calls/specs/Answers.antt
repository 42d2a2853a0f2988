-- The answer of a desk that shows a history to a call, and the history after it.
use Rattle.std.specs.Prelude.{◌≡◌, ◌⊎◌, ⊤, ℕ, List, Bool, true, false, None, Result, Ok, Err}
use Rattle.std.specs.declared.alloc.AllocError.{AllocError}
use Rattle.base.specs.declared.refusal.Refusal.{Refusal}
use Rattle.desk_types.specs.declared.caller.Caller.TheVariants as callers
use Rattle.desk_types.specs.declared.command.Call.{Call as Ruled}
use Rattle.desk_types.specs.declared.command.Command.{Command}
use Rattle.desk_types.specs.declared.command.Command.TheVariants as command
use Rattle.desk_types.specs.declared.command.Person.{Person}
use Rattle.desk_types.specs.declared.facts.Facts.{Facts}
use Rattle.desk_types.specs.declared.shown.ShownRequest.{ShownRequest}
use Rattle.desk_history.specs.Calls.{History}
use Rattle.desk_history.specs.Runs as runs
use Rattle.desk_history.specs.Verdicts.{verdict}
use Rattle.desk_history.specs.declared.answer.Answer as ruling
use Rattle.desk_history.specs.declared.answer.Answer.TheVariants as ruled
use Rattle.desk_exports.specs.Readings.{IsShownTo}
use Rattle.desk_exports.specs.declared.reading.Reading.{Reading}
use Rattle.desk_exports.specs.declared.shown.Shown.{Shown}
use Rattle.http_requests.specs.declared.ask.ImageAsked.{ImageAsked}
use Rattle.http_requests.specs.declared.ask.ImageAsked.TheVariants as asked
use Rattle.http_responses.specs.Refusals.{outage_refusal}
use Rattle.http_responses.specs.declared.outage.Outage.TheVariants as outage
use Rattle.http_responses.specs.declared.refused.Refused.{Refused}
use Rattle.http_responses.specs.declared.refused.Refused.TheVariants as refused
use Rattle.desk_inputs.specs.ImageFacts.{IsFactsOf}
use Rattle.http_calls.specs.Bodies.{ReadsBytes, ReadsImage, RefusesImage, RefusesAs}
use Rattle.http_calls.specs.Desks.{is_text_of}
use Rattle.http_calls.specs.Tags.{is_mismatch}
use Rattle.desk_history.specs.Called.{called}
use Rattle.http_calls.specs.declared.answers.TaskAnswer.{TaskAnswer}
use Rattle.http_calls.specs.declared.answers.TaskAnswer.TheVariants as answer
use Rattle.http_calls.specs.declared.call.TaskAsked.{TaskAsked}
use Rattle.http_calls.specs.declared.call.Task.{Task}
use Rattle.http_calls.specs.declared.call.Task.TheVariants as task

-- a refusal by the desk, which has no place, or an outage
abbrev pub IsRefusal : Refusal → TaskAnswer → Type 0
IsRefusal row (answer.Refused refused) = RefusesAs row None refused
IsRefusal row (answer.Unavailable outage) = outage_refusal outage ≡ row
IsRefusal row _ = ⊥

-- the answer gives nothing: the request is refused, or the desk can't answer
abbrev pub GivesNothing : TaskAnswer → Type 0
GivesNothing (answer.Refused refused) = ⊤
GivesNothing (answer.Unavailable outage) = ⊤
GivesNothing _ = ⊥

-- memory was refused
abbrev pub no_memory : TaskAnswer
no_memory = answer.Unavailable outage.NoMemory

-- the store failed
abbrev pub store_failed : TaskAnswer
store_failed = answer.Unavailable outage.Store

-- the desk has to be opened again
abbrev pub reopened : TaskAnswer
reopened = answer.Unavailable outage.Reopen

-- ---- commands

-- the call of a command by the person of this name, under a key
abbrev pub call_of : List ℕ → List ℕ → Command → Ruled
call_of name key command = called (callers.Person name) key command

-- the answer is that of the desk's rules
abbrev pub IsRuled : ruling.Answer → TaskAnswer → Type 0
IsRuled (ruled.Accepted reply) a = a ≡ answer.Reply reply
IsRuled (ruled.Repeated reply) a = a ≡ answer.Reply reply
IsRuled (ruled.Refused refusal) a = IsRefusal refusal a

-- own: the refusal of a body comes before the desk's rules, and its key stays free
abbrev pub IsTaken : History → List ℕ → List ℕ → Result Command Refused → TaskAnswer → History → Type 0
IsTaken cs name key (Err refused) a later = (a ≡ answer.Refused refused) × (later ≡ cs)
IsTaken cs name key (Ok command) a later =
    IsRuled (runs.answer cs (call_of name key command)) a × (later ≡ runs.next cs (call_of name key command))

-- the same, or that memory for the body was refused
abbrev pub IsTakenIfRead : History → List ℕ → List ℕ → Result (Result Command Refused) AllocError → TaskAnswer → History → Type 0
IsTakenIfRead cs name key (Err _) a later = (a ≡ no_memory) × (later ≡ cs)
IsTakenIfRead cs name key (Ok read) a later = IsTaken cs name key read a later

-- the same for a body that is read in this way
abbrev pub IsReadAndTaken : History → List ℕ → List ℕ → (Result Command Refused → Type 0) → TaskAnswer → History → Type 0
IsReadAndTaken cs name key reads a later = (read : Result Command Refused) × reads read × IsTaken cs name key read a later

-- ---- reads of a desk

-- the answer is one that is due, and nothing changes
abbrev pub IsRead : History → (TaskAnswer → Type 0) → TaskAnswer → History → Type 0
IsRead cs due a later = due a × (later ≡ cs)

-- what is shown is the answer, or a refusal is
abbrev pub Tells : Result (Shown (List ShownRequest)) Refusal → TaskAnswer → Type 0
Tells (Ok shown) a = a ≡ answer.Shown shown
Tells (Err refusal) a = IsRefusal refusal a

-- a person gets the answer to a read
abbrev pub ShowsAsked : List ℕ → History → Person → Reading → TaskAnswer → Type 0
ShowsAsked owner cs p reading a =
    (given : Result (Shown (List ShownRequest)) Refusal) × IsShownTo is_text_of owner cs p reading given × Tells given a

-- the verdict on an image, or the refusal of the image. own: it needs neither role nor key
abbrev pub Judges : History → List ℕ → TaskAnswer → Type 0
Judges cs image a =
    ((x : Facts) × IsFactsOf image x × (a ≡ answer.Verdict (verdict cs x) x))
    ⊎ ((refused : Refused) × RefusesImage image refused × (a ≡ answer.Refused refused))

-- the facts of the image, or its refusal. own: they need neither role nor key
abbrev pub TellsFacts : List ℕ → TaskAnswer → Type 0
TellsFacts image a =
    ((x : Facts) × IsFactsOf image x × (a ≡ answer.Facts x))
    ⊎ ((refused : Refused) × RefusesImage image refused × (a ≡ answer.Refused refused))

-- ---- every task

-- The desk that shows the history gives this answer to a request with an image by the person of
-- this name, and then shows `later`.
abbrev pub AnswersImage : History → List ℕ → ImageAsked → List ℕ → TaskAnswer → History → Type 0
AnswersImage cs name (asked.Submit key title) image =
    IsReadAndTaken cs name key (ReadsImage (λ x. command.Submit (record { title = title; facts = x })) image)
AnswersImage cs name (asked.Return key number) image =
    IsReadAndTaken cs name key (ReadsImage (λ x. command.Return (record { request = number; facts = x })) image)
AnswersImage cs name asked.Verdict image = IsRead cs (Judges cs image)
AnswersImage cs name asked.Facts image = IsRead cs (TellsFacts image)

-- The desk that shows the history gives this answer to a person's task, and then shows `later`. A
-- read changes nothing.
abbrev pub AnswersTask : List ℕ → History → Person → Task → TaskAnswer → History → Type 0
AnswersTask owner cs p (task.Read reading) = IsRead cs (ShowsAsked owner cs p reading)
AnswersTask owner cs p (task.Image with image) = AnswersImage cs p.name with image
AnswersTask owner cs p (task.Command key command) = IsTaken cs p.name key (Ok command)
AnswersTask owner cs p (task.Bytes key format bytes) = IsReadAndTaken cs p.name key (ReadsBytes format bytes)

-- the answer to a task whose subject has another tag, or not. own: if it has, the command is refused
-- for that before the desk's rules, its image isn't read, and its key stays free
abbrev pub AnswersUnless : Bool → List ℕ → History → Person → Task → TaskAnswer → History → Type 0
AnswersUnless true owner cs p task a later = (a ≡ answer.Refused refused.Mismatch) × (later ≡ cs)
AnswersUnless false owner cs p task a later = AnswersTask owner cs p task a later

-- the same for a call, with the tag that the caller sent, if any
abbrev pub AnswersCall : List ℕ → History → TaskAsked → TaskAnswer → History → Type 0
AnswersCall owner cs call = AnswersUnless (is_mismatch cs call) owner cs call.person call.task

-- ---- failures

-- The answer is one that is due, and the desk shows the history after it; or memory was refused,
-- and it shows the one before; or the store failed, and so has the desk.
abbrev pub Serves : (History → Type 0) → Type 0 → History → (TaskAnswer → History → Type 0) → TaskAnswer → Type 0
Serves shows failed cs due a =
    ((later : History) × due a later × shows later)
    ⊎ (((a ≡ no_memory) × shows cs) ⊎ ((a ≡ store_failed) × failed))

-- The answer of a desk that has failed, where `due` is the due answer at each owner and history:
-- that it must be opened again, unless memory was refused, or the answer is due at any history, for
-- example because the body is wrong.
abbrev pub IsClosed : (List ℕ → History → TaskAnswer → History → Type 0) → TaskAnswer → Type 0
IsClosed due a =
    (a ≡ reopened) ⊎ ((a ≡ no_memory) ⊎ ((owner : List ℕ) (cs : History) → due owner cs a cs))
