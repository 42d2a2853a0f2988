-- The step from the result of a desk to the answer.
use Rattle.std.proofs.Common.{◌≡◌, ◌≢◌, ◌⊎◌, inl, inr, ℕ, List, [], Some, None, Result, Ok, Err, IfOk, refl, sym, subst}
use Rattle.std.specs.declared.alloc.AllocError.{AllocError}
use Rattle.base.specs.declared.refusal.Refusal.{Refusal}
use Rattle.base.specs.declared.refusal.Refusal.TheVariants as refusals
use Rattle.desk_types.specs.declared.command.Command.{Command}
use Rattle.desk_types.specs.declared.command.Person.{Person}
use Rattle.desk_types.specs.declared.facts.Facts.{Facts}
use Rattle.desk_types.specs.declared.reply.Reply.{Reply}
use Rattle.desk_types.specs.declared.shown.ShownRequest.{ShownRequest}
use Rattle.desk_history.specs.Calls.{History}
use Rattle.desk_history.specs.Runs as runs
use Rattle.desk_history.specs.declared.answer.Answer as ruling
use Rattle.desk_history.specs.declared.answer.Answer.TheVariants as ruled
use Rattle.desk_exports.specs.Readings.{IsShownTo}
use Rattle.desk_exports.specs.declared.reading.Reading.{Reading}
use Rattle.desk_exports.specs.declared.shown.Shown.{Shown}
use Rattle.http_responses.specs.Refusals.{outage_refusal}
use Rattle.http_responses.specs.declared.outage.Outage.{Outage}
use Rattle.http_responses.specs.declared.outage.Outage.TheVariants as outage
use Rattle.http_responses.specs.declared.refused.Refused.{Refused}
use Rattle.http_calls.specs.Answers.{IsClosed, IsRead, IsReadAndTaken, IsRefusal, IsRuled, IsTaken, IsTakenIfRead, Judges, Serves, ShowsAsked, call_of, no_memory, store_failed}
use Rattle.http_calls.specs.Bodies.{ReadsFacts, RefusesImage}
use Rattle.desk_exports.specs.Desks.{IsOutage, IsShut}
use Rattle.http_calls.specs.Desks.{is_text_of}
use Rattle.http_calls.specs.declared.answers.TaskAnswer.{TaskAnswer}
use Rattle.http_calls.specs.declared.answers.TaskAnswer.TheVariants as answer
use Rattle.http_calls.proofs.RefusalLemmas.{apart, outage_told}

-- the answer of a refusal for an outage's row says that outage
told_as : (o : Outage) (r : Refusal) (a : TaskAnswer) → IsRefusal r a → r ≡ outage_refusal o → a ≡ answer.Unavailable o
told_as o r a is e = outage_told o a (subst (λ row. IsRefusal row a) e is)

-- and an answer that the store failed is of its row
pub store_told : (r : Refusal) (a : TaskAnswer) → IsRefusal r a → a ≡ store_failed → r ≡ refusals.Store
store_told r a is e = sym (subst (IsRefusal r) e is)

-- an outage of a desk that was usable is refused memory or a failed store
pub no_third : (r : Refusal) → IsOutage r → r ≢ refusals.Reopen → r ≢ refusals.NoMemory → r ≢ refusals.Store → ⊥
no_third r (inl e) no_reopen no_memory no_store = no_memory e
no_third r (inr (inl e)) no_reopen no_memory no_store = no_store e
no_third r (inr (inr e)) no_reopen no_memory no_store = no_reopen e

-- a refusal of the desk is an outage, or the answer that is due
pub serves_refusal : (after : History → Type 0) (failed : Type 0) (cs : History) (due : TaskAnswer → History → Type 0) (r : Refusal) (a : TaskAnswer)
    → IsRefusal r a → (r ≢ refusals.Store → after cs) → (r ≡ refusals.Store → failed)
    → (r ≢ refusals.NoMemory → r ≢ refusals.Store → IsRefusal r a → due a cs) → Serves after failed cs due a
serves_refusal after failed cs due r a is same fails told = elim (apart r) [
  | inl memory ↦ inr (inl (told_as outage.NoMemory r a is memory, same (λ e. let h : refusals.NoMemory ≡ refusals.Store = cc in cc)))
  | inr (inl store) ↦ inr (inr (told_as outage.Store r a is store, fails store))
  | inr (inr others) ↦ inl (cs, told others.0 others.1 is, same others.1)
]

-- the reply of the rules is the answer
pub ruled_reply : (said : ruling.Answer) (reply : Reply) → runs.reply_in said ≡ Some reply → IsRuled said (answer.Reply reply)
ruled_reply (ruled.Accepted given) reply e = cc
ruled_reply (ruled.Repeated given) reply e = cc
ruled_reply (ruled.Refused refusal) reply e = let h : None ≡ Some reply = e in absurd (let no : ⊥ = cc in no)

-- a refusal of the rules is the answer, and changes nothing
pub taken_refusal : (cs : History) (name key : List ℕ) (command : Command) (r : Refusal) (a : TaskAnswer)
    → runs.answer cs (call_of name key command) ≡ ruled.Refused r → IsRefusal r a → IsTaken cs name key (Ok command) a cs
taken_refusal cs name key command r a is told =
    (subst (λ said. IsRuled said a) (sym is) told, rw is refl)

-- a body that is read so is taken as it was read
pub serves_read : (after : History → Type 0) (failed : Type 0) (cs : History) (name key : List ℕ) (reads : Result Command Refused → Type 0)
    (read : Result (Result Command Refused) AllocError) (a : TaskAnswer)
    → IfOk read reads → Serves after failed cs (IsTakenIfRead cs name key read) a → Serves after failed cs (IsReadAndTaken cs name key reads) a
serves_read after failed cs name key reads (Ok body) a is (inl served) = inl (served.0, (body, is, served.1), served.2)
serves_read after failed cs name key reads (Err e) a is (inl served) = inr (inl (served.1.0, subst after served.1.1 served.2))
serves_read after failed cs name key reads read a is (inr others) = inr others

-- a reply of the rules is the answer
pub serves_reply : (after : History → Type 0) (failed : Type 0) (cs : History) (name key : List ℕ) (command : Command) (reply : Reply)
    → runs.reply_in (runs.answer cs (call_of name key command)) ≡ Some reply → after (runs.next cs (call_of name key command))
    → Serves after failed cs (IsTaken cs name key (Ok command)) (answer.Reply reply)
serves_reply after failed cs name key command reply said shown =
    inl (runs.next cs (call_of name key command), (ruled_reply (runs.answer cs (call_of name key command)) reply said, refl), shown)

-- the same where the command is read as another that it is
pub serves_same : (after : History → Type 0) (failed : Type 0) (cs : History) (name key : List ℕ) (x y : Result (Result Command Refused) AllocError) (a : TaskAnswer)
    → x ≡ y → Serves after failed cs (IsTakenIfRead cs name key x) a → Serves after failed cs (IsTakenIfRead cs name key y) a
serves_same after failed cs name key x y a e h = subst (λ read. Serves after failed cs (IsTakenIfRead cs name key read) a) e h

-- the two requests are the same
pub serves_as : {A : Type 0} → (after : History → Type 0) (failed : Type 0) (cs : History) (due : A → TaskAnswer → History → Type 0) (x y : A) (a : TaskAnswer)
    → x ≡ y → Serves after failed cs (due y) a → Serves after failed cs (due x) a
serves_as after failed cs due x y a e h = subst (λ z. Serves after failed cs (due z) a) (sym e) h

-- what a person is shown is the answer
pub serves_shown : (after : History → Type 0) (failed : Type 0) (owner : List ℕ) (cs : History) (p : Person) (reading : Reading) (shown : Shown (List ShownRequest))
    → IsShownTo is_text_of owner cs p reading (Ok shown) → after cs
    → Serves after failed cs (IsRead cs (ShowsAsked owner cs p reading)) (answer.Shown shown)
serves_shown after failed owner cs p reading shown due still = inl (cs, ((Ok shown, due, refl), refl), still)

-- or why nothing is shown
pub told_refusal : (owner : List ℕ) (cs : History) (p : Person) (reading : Reading) (r : Refusal) (a : TaskAnswer)
    → IsShownTo is_text_of owner cs p reading (Err r) → IsRefusal r a → IsRead cs (ShowsAsked owner cs p reading) a cs
told_refusal owner cs p reading r a due is = ((Err r, due, is), refl)

-- an answer that is the same at every history, unless memory was refused
pub serves_told : (after : History → Type 0) (failed : Type 0) (cs : History) (due : TaskAnswer → Type 0) (a : TaskAnswer)
    → due a ⊎ (a ≡ no_memory) → after cs → Serves after failed cs (IsRead cs due) a
serves_told after failed cs due a (inl told) still = inl (cs, (told, refl), still)
serves_told after failed cs due a (inr memory) still = inr (inl (memory, still))

-- ---- a desk that has failed

-- such an answer is due, unless memory was refused
pub closed_told : (due : TaskAnswer → Type 0) (a : TaskAnswer) → due a ⊎ (a ≡ no_memory) → IsClosed (λ owner cs. IsRead cs due) a
closed_told due a (inl told) = inr (inr (λ owner cs. (told, refl)))
closed_told due a (inr memory) = inr (inl memory)

-- a body that is read so is taken as it was read
pub closed_read : (name key : List ℕ) (reads : Result Command Refused → Type 0) (read : Result (Result Command Refused) AllocError) (a : TaskAnswer)
    → IfOk read reads → IsClosed (λ owner cs. IsTakenIfRead cs name key read) a → IsClosed (λ owner cs. IsReadAndTaken cs name key reads) a
closed_read name key reads read a is (inl reopen) = inl reopen
closed_read name key reads read a is (inr (inl memory)) = inr (inl memory)
closed_read name key reads (Ok body) a is (inr (inr each)) = inr (inr (λ owner cs. (body, is, each owner cs)))
closed_read name key reads (Err e) a is (inr (inr each)) = let taken = each [] [] in inr (inl taken.0)

-- the two requests are the same
pub closed_as : {A : Type 0} → (due : A → List ℕ → History → TaskAnswer → History → Type 0) (x y : A) (a : TaskAnswer)
    → x ≡ y → IsClosed (due y) a → IsClosed (due x) a
closed_as due x y a e h = subst (λ z. IsClosed (due z) a) (sym e) h

-- an image that has no facts is refused so, whatever the history is
pub closed_image : (image : List ℕ) (read : Result (Result Facts Refused) AllocError) (x : Refused) → read ≡ Ok (Err x) → IfOk read (ReadsFacts image)
    → IsClosed (λ owner cs. IsRead cs (Judges cs image)) (answer.Refused x)
closed_image image read x e reads =
    let refuses : RefusesImage image x = subst (λ r. IfOk r (ReadsFacts image)) e reads in
    inr (inr (λ owner cs. (inr (x, refuses, refl), refl)))

-- what is shown, whatever the history is
pub shut_shown : (p : Person) (reading : Reading) (shown : Shown (List ShownRequest)) → IsShut is_text_of p reading (Ok shown)
    → IsClosed (λ owner cs. IsRead cs (ShowsAsked owner cs p reading)) (answer.Shown shown)
shut_shown p reading shown (inl reopened) = absurd cc
shut_shown p reading shown (inr each) = inr (inr (λ owner cs. ((Ok shown, each owner cs, refl), refl)))

-- or why nothing is shown
pub shut_refusal : (p : Person) (reading : Reading) (r : Refusal) (a : TaskAnswer) → IsRefusal r a → IsShut is_text_of p reading (Err r)
    → IsClosed (λ owner cs. IsRead cs (ShowsAsked owner cs p reading)) a
shut_refusal p reading r a is (inl reopened) = let same : r ≡ refusals.Reopen = cc in inl (told_as outage.Reopen r a is same)
shut_refusal p reading r a is (inr each) = inr (inr (λ owner cs. ((Err r, each owner cs, is), refl)))
