-- The call that an exchange gave a desk.
use Rattle.std.proofs.Common.{◌≡◌, ◌≢◌, ◌⊎◌, ℕ, List, [], inl, inr, refl, sym, ap, subst, false, Option, Some, None, Result, Ok, Err, IfSome}
use Rattle.std.proofs.KnownBytes.{Keeps-refl}
use Rattle.desk_types.specs.declared.command.Call.{Call as Ruled}
use Rattle.desk_types.specs.declared.reply.Reply.{Reply}
use Rattle.desk_history.specs.Calls.{History}
use Rattle.desk_exports.specs.Desks.{ForEachShown, LeavesShown, StillShows}
use Rattle.http_responses.specs.declared.outage.Outage.{Outage}
use Rattle.http_responses.specs.declared.outage.Outage.TheVariants as outage
use Rattle.http_calls.specs.Answers.{no_memory}
use Rattle.http_calls.specs.Given.{GivesOne, RepliesTo, after, is_reply}
use Rattle.http_calls.specs.declared.answers.TaskAnswer.{TaskAnswer}
use Rattle.http_calls.specs.declared.answers.TaskAnswer.TheVariants as answer
use Rattle.http_calls.proofs.GivenLemmas.{gives_none, gives_outage, gives_wider}
use Rattle.http_exchange.specs.Asked.{Asks, CallOrRefusal}
use Rattle.http_exchange.specs.Sending.{Replaces, Sends}
use Rattle.http_exchange.specs.Serving.{AnswersOne, IsAskedIn, IsCallDue, Responds, WhenAnswered}
use Rattle.http_exchange.specs.declared.served.HttpFault.{HttpFault}
use Rattle.http_exchange.specs.declared.served.HttpFault.TheVariants as fault
use Rattle.http_exchange.specs.declared.served.Served.{Served}
use Rattle.http_exchange.specs.declared.served.Served.TheVariants.{Answered, Nothing}
use Rattle.http_exchange.proofs.ClosedLemmas.{nothing_closed}
use Rattle.http_exchange.proofs.SendLemmas.{SendsFor}
use Rattle.http_exchange.proofs.TellLemmas.{input_asks}

-- ---- the input that asks for it

asks_for : (cs : History) (input : Option (List ℕ)) (due : CallOrRefusal) → IfSome input (λ b. Asks cs b due) → (c : Ruled) → IsCallDue due c → IsAskedIn cs input c
asks_for cs input (Ok call) asked c is = (call, asked, is)
asks_for cs input (Err refused) asked c is = absurd is

-- the desk keeps what it shows while the request is read, and then is given its call
pub input_is_given : (known : Option (List ℕ)) (old mid new : List ℕ → History → Type 0) (failed : Type 0) (leaves : List ℕ → History → History → Type 0) (due : CallOrRefusal) (a : TaskAnswer)
    → IfSome known (λ b. ForEachShown old (λ _ cs. Asks cs b due)) → StillShows old mid
    → ForEachShown mid (λ owner cs. GivesOne (new owner) failed (leaves owner) cs (IsCallDue due) a)
    → ForEachShown old (λ owner cs. GivesOne (new owner) failed (leaves owner) cs (IsAskedIn cs known) a)
input_is_given known old mid new failed leaves due a asked kept given = λ owner cs shown.
    gives_wider (new owner) failed (leaves owner) cs (IsCallDue due) (IsAskedIn cs known) a
    (asks_for cs known due (input_asks known old due asked owner cs shown)) (given owner cs (kept owner cs shown))

-- an outage while the request is read
pub outage_is_given : (known : Option (List ℕ)) (old new : List ℕ → History → Type 0) (failed : Type 0) (leaves : List ℕ → History → History → Type 0) (o : Outage)
    → ((o ≡ outage.Store → ⊥) → StillShows old new) → (o ≡ outage.Store → failed) → LeavesShown old leaves
    → ForEachShown old (λ owner cs. GivesOne (new owner) failed (leaves owner) cs (IsAskedIn cs known) (answer.Unavailable o))
outage_is_given known old new failed leaves o same fails left = λ owner cs shown.
    gives_outage (new owner) failed (leaves owner) cs (IsAskedIn cs known) o (λ no. same no owner cs shown) fails (left owner cs shown)

-- ---- the answer that is sent

no_reply_at_all : (cs : History) (given : Option Ruled) (told : TaskAnswer) → told ≡ no_memory → RepliesTo cs given told
no_reply_at_all cs None told e = ap is_reply e
no_reply_at_all cs (Some c) told e = λ reply is. absurd (other reply (sym e) is)
  where
    other : (reply : Reply) → no_memory ≡ told → told ≡ answer.Reply reply → ⊥
    other reply x y = let both : no_memory ≡ answer.Reply reply = subst (λ t. no_memory ≡ t) y x in cc

module _ (shows : History → Type 0) (failed : Type 0) (leaves : History → History → Type 0) (cs : History) (asks : Ruled → Type 0) where
  told_outcome : (given : Option Ruled) (a told : TaskAnswer) → told ≡ no_memory
      → (RepliesTo cs given a × shows (after cs given)) ⊎ ((is_reply a ≡ false) × (shows cs ⊎ failed))
      → (RepliesTo cs given told × shows (after cs given)) ⊎ ((is_reply told ≡ false) × (shows cs ⊎ failed))
  told_outcome given a told e (inl x) = inl (no_reply_at_all cs given told e, x.1)
  told_outcome given a told e (inr x) = inr (ap is_reply e, x.1)

  told_is_given : (a told : TaskAnswer) → GivesOne shows failed leaves cs asks a → Replaces a told → GivesOne shows failed leaves cs asks told
  told_is_given a told g (inl e) = subst (λ x. GivesOne shows failed leaves cs asks x) (sym e) g
  told_is_given a told g (inr x) = record { given = g.given; asked = g.asked; outcome = told_outcome g.given a told x.0 g.outcome; left = g.left }

when_sent : (held holds : Option (List ℕ)) (told : TaskAnswer) (r : Result Served HttpFault) → Sends held holds told r → WhenAnswered r (Responds held holds told)
when_sent held holds told (Ok (Answered answered)) sent = sent
when_sent held holds told (Ok Nothing) sent = tt
when_sent held holds told (Err f) sent = tt

-- the response went out, whole or in part
pub given_is_told : (input held holds : Option (List ℕ)) (old new : List ℕ → History → Type 0) (failed : Type 0) (leaves : List ℕ → History → History → Type 0) (a : TaskAnswer) (r : Result Served HttpFault)
    → ForEachShown old (λ owner cs. GivesOne (new owner) failed (leaves owner) cs (IsAskedIn cs input) a) → SendsFor held holds a r
    → ForEachShown old (λ owner cs. (told : TaskAnswer) × WhenAnswered r (Responds held holds told)
    × GivesOne (new owner) failed (leaves owner) cs (IsAskedIn cs input) told)
given_is_told input held holds old new failed leaves a r given sent = λ owner cs shown.
    (sent.0, when_sent held holds sent.0 r sent.2, told_is_given (new owner) failed (leaves owner) cs (IsAskedIn cs input) a sent.0 (given owner cs shown) sent.1)

-- nothing went out, and the desk shows the same
pub nothing_is_given : (input held holds : Option (List ℕ)) (old new : List ℕ → History → Type 0) (failed : Type 0) (leaves : List ℕ → History → History → Type 0) (r : Result Served HttpFault)
    → WhenAnswered r (Responds held holds no_memory) → StillShows old new → LeavesShown new leaves
    → ForEachShown old (λ owner cs. (told : TaskAnswer) × WhenAnswered r (Responds held holds told)
    × GivesOne (new owner) failed (leaves owner) cs (IsAskedIn cs input) told)
nothing_is_given input held holds old new failed leaves r none same rests = λ owner cs shown.
    let still = same owner cs shown in
    (no_memory, none, gives_none (new owner) failed (leaves owner) cs (IsAskedIn cs input) no_memory refl still (rests owner cs still))

-- the input wasn't read
module _ {D : Type 0} (shows : D → List ℕ → History → Type 0) (clean failed : D → Type 0) (leaves : D → List ℕ → History → History → Type 0)
    (input held : Option (List ℕ)) (old new : D) (same : clean new → StillShows (shows old) (shows new)) (shut : failed old → new ≡ old)
    (was : clean new → clean old) (rests : LeavesShown (shows new) (leaves new)) where
  pub fault_answers : (f : HttpFault) → f ≢ fault.Write → AnswersOne shows clean failed leaves input held held old new (Err f)
  fault_answers fault.Read differs = record {
    answered = λ is. tt;
    nothing = λ is. tt;
    unread = λ is. (Keeps-refl held, same is);
    unwritten = λ is. tt;
    gives = λ is. nothing_is_given input held held (shows old) (shows new) (failed new) (leaves new) (Err fault.Read) tt (same is) rests;
    rests = rests;
    some = (tt, tt);
    response = tt;
    poisons = tt;
    closed = λ failing. (shut failing, nothing_closed input held held fault.Read differs);
    before = was;
  }
  fault_answers fault.Write differs = absurd (differs refl)
  fault_answers fault.NoMemory differs = record {
    answered = λ is. tt;
    nothing = λ is. tt;
    unread = λ is. (Keeps-refl held, same is);
    unwritten = λ is. tt;
    gives = λ is. nothing_is_given input held held (shows old) (shows new) (failed new) (leaves new) (Err fault.NoMemory) tt (same is) rests;
    rests = rests;
    some = (tt, tt);
    response = tt;
    poisons = tt;
    closed = λ failing. (shut failing, nothing_closed input held held fault.NoMemory differs);
    before = was;
  }

-- the input had no byte
module _ {D : Type 0} (shows : D → List ℕ → History → Type 0) (clean failed : D → Type 0) (leaves : D → List ℕ → History → History → Type 0)
    (input held : Option (List ℕ)) (old new : D) (shut : failed old → new ≡ old) (was : clean new → clean old) (rests : LeavesShown (shows new) (leaves new)) where
  pub nothing_answers : (clean new → ForEachShown (shows old) (λ owner cs. IfSome input (λ b. b ≡ []) × shows new owner cs))
      → AnswersOne shows clean failed leaves input held held old new (Ok Nothing)
  nothing_answers none = record {
    answered = λ is. tt;
    nothing = λ is owner cs shown. (let at = none is owner cs shown in (at.0, Keeps-refl held, at.1));
    unread = λ is. tt;
    unwritten = λ is. tt;
    gives = λ is. nothing_is_given input held held (shows old) (shows new) (failed new) (leaves new) (Ok Nothing) tt (λ owner cs shown. (none is owner cs shown).1) rests;
    rests = rests;
    some = (tt, tt);
    response = tt;
    poisons = tt;
    closed = λ failing. (shut failing, record { answered = tt; unwritten = tt });
    before = was;
  }
