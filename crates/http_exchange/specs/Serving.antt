-- own: the service of one connection, and the history that the desk shows after it.
use Rattle.std.specs.Prelude.{◌≡◌, ◌⊎◌, ℕ, List, [], Option, Result, Ok, Err, IfSome, ⊤}
use Rattle.std.specs.Io.KnownBytes.{Appends, Keeps}
use Rattle.base.specs.Output.{AppendsBeginning}
use Rattle.http_responses.specs.declared.outage.Outage.TheVariants as outage
use Rattle.desk_history.specs.Calls.{History}
use Rattle.desk_types.specs.declared.command.Call.{Call as Ruled}
use Rattle.http_calls.specs.Answers.{AnswersCall, GivesNothing, IsClosed, no_memory, store_failed}
use Rattle.desk_exports.specs.Desks.{ForEachShown, LeavesShown, StillShows}
use Rattle.http_calls.specs.Given.{GivesOne, IsCallOf}
use Rattle.http_calls.specs.declared.answers.TaskAnswer.{TaskAnswer}
use Rattle.http_calls.specs.declared.answers.TaskAnswer.TheVariants.{Refused}
use Rattle.http_calls.specs.declared.call.TaskAsked.{TaskAsked}
use Rattle.http_exchange.specs.Asked.{Asks, CallOrRefusal, HasByte, LeavesBody}
use Rattle.http_exchange.specs.Responses.{answered_of, response_of}
use Rattle.http_exchange.specs.declared.served.Answered.{Answered}
use Rattle.http_exchange.specs.declared.served.HttpFault.{HttpFault}
use Rattle.http_exchange.specs.declared.served.HttpFault.TheVariants as fault
use Rattle.http_exchange.specs.declared.served.Said.TheVariants as said
use Rattle.http_exchange.specs.declared.served.Served.{Served}
use Rattle.http_exchange.specs.declared.served.Served.TheVariants as served

-- The desk that shows the history gives this answer to the request, and then shows `later`. A
-- refusal of the request changes nothing.
abbrev pub AnswersDue : List ℕ → History → CallOrRefusal → TaskAnswer → History → Type 0
AnswersDue owner cs (Ok call) = AnswersCall owner cs call
AnswersDue owner cs (Err refused) = λ a later. (a ≡ Refused refused) × (later ≡ cs)

-- The desk that shows the history gives this answer to the request of the input, and then shows
-- `later`. No clause can name the bytes of a socket: then it is some request.
pub record AnswersInput (owner : List ℕ) (cs : History) (input : Option (List ℕ)) (a : TaskAnswer) (later : History) : Type 0 where
  pub due : CallOrRefusal
  pub asked : IfSome input (λ b. Asks cs b due)
  pub answered : AnswersDue owner cs due a later

-- what is due asks for this call of the desk's rules
abbrev pub IsCallDue : CallOrRefusal → Ruled → Type 0
IsCallDue (Ok call) = IsCallOf call
IsCallDue (Err refused) = λ c. ⊥

-- the input asks for this call of the desk's rules
abbrev pub IsAskedIn : History → Option (List ℕ) → Ruled → Type 0
IsAskedIn cs input c = (call : TaskAsked) × IfSome input (λ b. Asks cs b (Ok call)) × IsCallOf call c

-- the answer is due, and the desk shows the history after it
pub record IsServed (shows : History → Type 0) (due : TaskAnswer → History → Type 0) (a : TaskAnswer) : Type 0 where
  pub later : History
  pub answered : due a later
  pub shown : shows later

-- The answer that is sent is a due one; or NoMemory, perhaps because the text of a due answer found
-- no memory; or that the store failed. The desk shows the history after the answer, or the one
-- before, or it has failed.
abbrev pub AnswersDueOrOutage : (History → Type 0) → Type 0 → History → (TaskAnswer → History → Type 0) → TaskAnswer → Type 0
AnswersDueOrOutage shows failed cs due told =
    IsServed shows due told
    ⊎ (((told ≡ no_memory) × (shows cs ⊎ ((a : TaskAnswer) × IsServed shows due a)))
    ⊎ ((told ≡ store_failed) × failed))

-- the response to an answer was written whole, with the answer's status and what it says
pub record Responds (old new : Option (List ℕ)) (a : TaskAnswer) (answered : Answered) : Type 0 where
  pub written : Appends old new (response_of a)
  pub says : answered ≡ answered_of a

-- if a response was written whole
abbrev pub WhenAnswered : Result Served HttpFault → (Answered → Type 0) → Type 0
WhenAnswered (Ok (served.Answered answered)) holds = holds answered
WhenAnswered (Ok served.Nothing) holds = ⊤
WhenAnswered (Err fault) holds = ⊤

-- if the input had no byte
abbrev pub WhenNothing : Result Served HttpFault → Type 0 → Type 0
WhenNothing (Ok (served.Answered answered)) holds = ⊤
WhenNothing (Ok served.Nothing) holds = holds
WhenNothing (Err fault) holds = ⊤

-- if the request wasn't read
abbrev pub WhenUnread : Result Served HttpFault → Type 0 → Type 0
WhenUnread (Ok served) holds = ⊤
WhenUnread (Err fault.Read) holds = holds
WhenUnread (Err fault.Write) holds = ⊤
WhenUnread (Err fault.NoMemory) holds = holds

-- if the response wasn't written whole
abbrev pub WhenUnwritten : Result Served HttpFault → Type 0 → Type 0
WhenUnwritten (Ok served) holds = ⊤
WhenUnwritten (Err fault.Read) holds = ⊤
WhenUnwritten (Err fault.Write) holds = holds
WhenUnwritten (Err fault.NoMemory) holds = ⊤

-- In the following, `input` and `left` are the reader's bytes before and after, `before` and
-- `after` the writer's.

-- whatever the desk shows: a response that the store failed comes only from a desk that has failed
abbrev pub FailsFirst : (failed : Type 0) → Result Served HttpFault → Type 0
FailsFirst failed result = WhenAnswered result (λ answered. answered.said ≡ said.Unavailable outage.Store → failed)

-- the refusal of the input by a desk that has failed: that it must be opened again, unless memory
-- was refused, or the refusal is due at any history
pub record TellsClosed (input : Option (List ℕ)) (told : TaskAnswer) : Type 0 where
  pub nothing : GivesNothing told
  pub closed : IsClosed (λ owner cs. AnswersInput owner cs input) told

-- the response of a desk that has failed, or the prefix of it that was written, is for such a
-- refusal
pub record RespondsClosed (input before after : Option (List ℕ)) (result : Result Served HttpFault) : Type 0 where
  pub answered : WhenAnswered result (λ answered. (told : TaskAnswer)
      × Responds before after told answered × TellsClosed input told)
  pub unwritten : WhenUnwritten result ((told : TaskAnswer)
      × AppendsBeginning before after (response_of told) × TellsClosed input told)

-- if a response was sent, whole or in part, the bytes after a head that is nobody's are left unread
abbrev pub LeavesStrangers : (old : List ℕ → History → Type 0) → (input left : Option (List ℕ)) → Result Served HttpFault → Type 0
LeavesStrangers old input left result =
    WhenAnswered result (λ _. LeavesBody old input left) × WhenUnwritten result (LeavesBody old input left)

-- if a response was sent, whole or in part, the input has a byte
abbrev pub IsOfBytes : (input : Option (List ℕ)) → Result Served HttpFault → Type 0
IsOfBytes input result = WhenAnswered result (λ _. HasByte input) × WhenUnwritten result (HasByte input)

-- One exchange of a desk that was `old` and is `new`, in the words of `AnswersCalls`; the writer held
-- `held` and now holds `holds`.
pub record AnswersOne {D : Type 0} (shows : D → List ℕ → History → Type 0) (clean failed : D → Type 0) (leaves : D → List ℕ → History → History → Type 0) (input held holds : Option (List ℕ)) (old new : D) (result : Result Served HttpFault) : Type 0 where
  -- a response that was written is that of an answer to the input at the history that the desk
  -- showed, and the desk shows the history after that answer
  pub answered : clean new → WhenAnswered result (λ answered.
      ForEachShown (shows old) (λ owner cs. (told : TaskAnswer)
      × Responds held holds told answered
      × AnswersDueOrOutage (shows new owner) (failed new) cs (AnswersInput owner cs input) told))
  -- an input without bytes is ignored: nothing is written, and the desk shows the same history
  pub nothing : clean new → WhenNothing result (ForEachShown (shows old) (λ owner cs.
      IfSome input (λ b. b ≡ []) × Keeps held holds × shows new owner cs))
  -- if the request wasn't read, nothing is written, and the desk shows the same history
  pub unread : clean new → WhenUnread result (Keeps held holds × StillShows (shows old) (shows new))
  -- if the writer failed, it has a prefix of the response to such an answer, and the desk shows the
  -- history after that answer
  pub unwritten : clean new → WhenUnwritten result
      (ForEachShown (shows old) (λ owner cs. (told : TaskAnswer)
      × AppendsBeginning held holds (response_of told)
      × AnswersDueOrOutage (shows new owner) (failed new) cs (AnswersInput owner cs input) told))
  -- whatever the outcome, the desk was given at most one call, which the input asks for; a reply is
  -- that of the desk's rules to this call; and a stop leaves the history that the desk showed, or the
  -- one after the call
  pub gives : clean new → ForEachShown (shows old) (λ owner cs. (told : TaskAnswer)
      × WhenAnswered result (Responds held holds told)
      × GivesOne (shows new owner) (failed new) (leaves new owner) cs (IsAskedIn cs input) told)
  -- a stop leaves the history that the desk shows now, if it shows one
  pub rests : LeavesShown (shows new) (leaves new)
  pub some : IsOfBytes input result
  -- whatever the desk shows: the bytes that were written are the whole response to an answer, with
  -- its status and what it says
  pub response : WhenAnswered result (λ answered. (told : TaskAnswer) × Responds held holds told answered)
  pub poisons : FailsFirst (failed new) result
  -- a desk that had failed doesn't change, and refuses the input
  pub closed : failed old → (new ≡ old) × RespondsClosed input held holds result
  -- a disk that is clean after the exchange was clean before
  pub before : clean new → clean old
