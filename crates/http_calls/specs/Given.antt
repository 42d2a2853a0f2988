-- own: the call of the desk's rules that a person's call gives a desk, and what becomes of it.
use Rattle.std.specs.Prelude.{◌≡◌, ◌⊎◌, ℕ, Bool, true, false, List, Option, None, Some, Result, Ok, Err, IfSome}
use Rattle.desk_types.specs.Formed.{IsCall}
use Rattle.desk_types.specs.declared.command.Call.{Call as Ruled}
use Rattle.desk_types.specs.declared.command.Command.{Command}
use Rattle.desk_types.specs.declared.command.Command.TheVariants as command
use Rattle.desk_types.specs.declared.command.Person.{Person}
use Rattle.desk_types.specs.declared.reply.Reply.{Reply}
use Rattle.desk_history.specs.Calls.{History}
use Rattle.desk_history.specs.Runs.{next, reply_in}
use Rattle.desk_history.specs.Runs as runs
use Rattle.http_requests.specs.declared.ask.ImageAsked.{ImageAsked}
use Rattle.http_requests.specs.declared.ask.ImageAsked.TheVariants as asked
use Rattle.http_responses.specs.declared.refused.Refused.{Refused}
use Rattle.http_calls.specs.Answers.{call_of}
use Rattle.http_calls.specs.Bodies.{ReadsBytes, ReadsImage}
use Rattle.http_calls.specs.declared.answers.TaskAnswer.{TaskAnswer}
use Rattle.http_calls.specs.declared.answers.TaskAnswer.TheVariants as answer
use Rattle.http_calls.specs.declared.call.TaskAsked.{TaskAsked}
use Rattle.http_calls.specs.declared.call.Task.{Task}
use Rattle.http_calls.specs.declared.call.Task.TheVariants as task

-- ---- the call

-- the call of a command, under a key, in a body that is read in this way
abbrev pub IsReadCall : List ℕ → List ℕ → (Result Command Refused → Type 0) → Ruled → Type 0
IsReadCall name key reads c = (command : Command) × reads (Ok command) × (c ≡ call_of name key command)

-- a request with an image by the person of this name asks for this call
abbrev pub IsCallOfImage : List ℕ → ImageAsked → List ℕ → Ruled → Type 0
IsCallOfImage name (asked.Submit key title) image =
    IsReadCall name key (ReadsImage (λ x. command.Submit (record { title = title; facts = x })) image)
IsCallOfImage name (asked.Return key number) image =
    IsReadCall name key (ReadsImage (λ x. command.Return (record { request = number; facts = x })) image)
IsCallOfImage name asked.Verdict image = λ c. ⊥
IsCallOfImage name asked.Facts image = λ c. ⊥

-- a person's task asks for this call
abbrev pub IsCallOfTask : Person → Task → Ruled → Type 0
IsCallOfTask p (task.Read reading) = λ c. ⊥
IsCallOfTask p (task.Image with image) = IsCallOfImage p.name with image
IsCallOfTask p (task.Command key command) = λ c. c ≡ call_of p.name key command
IsCallOfTask p (task.Bytes key format bytes) = IsReadCall p.name key (ReadsBytes format bytes)

-- a person's call asks for this call of the desk's rules
abbrev pub IsCallOf : TaskAsked → Ruled → Type 0
IsCallOf call = IsCallOfTask call.person call.task

-- ---- what becomes of it

-- the history after the call that was given, if one was
abbrev pub after : History → Option Ruled → History
after cs None = cs
after cs (Some c) = next cs c

-- the answer is the reply to a command
abbrev pub is_reply : TaskAnswer → Bool
is_reply (answer.Reply reply) = true
is_reply (answer.Shown given) = false
is_reply (answer.Verdict verdict facts) = false
is_reply (answer.Facts facts) = false
is_reply (answer.Refused refused) = false
is_reply (answer.Unavailable outage) = false

-- the answer is a reply only if the desk's rules reply so to the call that was given
abbrev pub RepliesTo : History → Option Ruled → TaskAnswer → Type 0
RepliesTo cs None a = is_reply a ≡ false
RepliesTo cs (Some c) a = (reply : Reply) → a ≡ answer.Reply reply → reply_in (runs.answer cs c) ≡ Some reply

-- A desk that showed the history was given at most one call, which `asks` allows, and `a` was
-- answered. A reply is that of the desk's rules to this call. The desk shows the history after the
-- call, or the one before, or it has failed. Whichever it is, a stop leaves one of these two.
pub record GivesOne (shows : History → Type 0) (failed : Type 0) (leaves : History → History → Type 0) (cs : History) (asks : Ruled → Type 0) (a : TaskAnswer) : Type 0 where
  pub given : Option Ruled
  -- the call is in its forms
  pub asked : IfSome given (λ c. IsCall c × asks c)
  pub outcome : (RepliesTo cs given a × shows (after cs given)) ⊎ ((is_reply a ≡ false) × (shows cs ⊎ failed))
  pub left : leaves cs (after cs given)
