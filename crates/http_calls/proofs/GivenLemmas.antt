-- Calls that a desk was given, and what became of them.
use Rattle.std.proofs.Common.{◌≡◌, ◌≢◌, ◌⊎◌, ◌∙◌, inl, inr, ℕ, false, List, Option, Some, None, Result, Ok, Err, IfOk, IfSome, refl, sym, ap, subst}
use Rattle.std.specs.declared.alloc.AllocError.{AllocError}
use Rattle.base.specs.declared.refusal.Refusal.{Refusal}
use Rattle.base.specs.declared.refusal.Refusal.TheVariants as refusals
use Rattle.desk_types.specs.Formed.{IsCall}
use Rattle.desk_types.specs.declared.command.Call.{Call as Ruled}
use Rattle.desk_types.specs.declared.command.Command.{Command}
use Rattle.desk_types.specs.declared.command.Person.{Person}
use Rattle.desk_types.specs.declared.reply.Reply.{Reply}
use Rattle.desk_types.specs.declared.shown.ShownRequest.{ShownRequest}
use Rattle.desk_history.specs.Calls.{History}
use Rattle.desk_history.specs.Runs as runs
use Rattle.desk_exports.specs.Readings.{IsShownTo}
use Rattle.desk_exports.specs.declared.reading.Reading.{Reading}
use Rattle.desk_exports.specs.declared.shown.Shown.{Shown}
use Rattle.http_responses.specs.declared.outage.Outage.{Outage}
use Rattle.http_responses.specs.declared.outage.Outage.TheVariants as outage
use Rattle.http_responses.specs.declared.refused.Refused.{Refused}
use Rattle.http_calls.specs.Answers.{IsRead, IsRefusal, Judges, Serves, ShowsAsked, Tells, TellsFacts, call_of, no_memory}
use Rattle.http_calls.specs.Desks.{is_text_of}
use Rattle.http_calls.specs.Given.{GivesOne, IsReadCall, is_reply}
use Rattle.http_calls.specs.declared.answers.TaskAnswer.{TaskAnswer}
use Rattle.http_calls.specs.declared.answers.TaskAnswer.TheVariants as answer
use Rattle.http_calls.proofs.RefusalLemmas.{apart}

-- a command that is known
abbrev pub as_read : Command → Result (Result Command Refused) AllocError
as_read command = Ok (Ok command)

-- ---- answers that are no reply

-- a refusal
refusal_no_reply : (r : Refusal) (a : TaskAnswer) → IsRefusal r a → is_reply a ≡ false
refusal_no_reply r (answer.Reply reply) is = absurd is
refusal_no_reply r (answer.Shown given) is = refl
refusal_no_reply r (answer.Verdict verdict facts) is = refl
refusal_no_reply r (answer.Facts facts) is = refl
refusal_no_reply r (answer.Refused refused) is = refl
refusal_no_reply r (answer.Unavailable outage) is = refl

-- a verdict
pub judges_no_reply : (cs : History) (image : List ℕ) (a : TaskAnswer) → Judges cs image a → is_reply a ≡ false
judges_no_reply cs image a (inl x) = ap is_reply x.2
judges_no_reply cs image a (inr x) = ap is_reply x.2

-- the facts of an image
pub tells_no_reply : (image : List ℕ) (a : TaskAnswer) → TellsFacts image a → is_reply a ≡ false
tells_no_reply image a (inl x) = ap is_reply x.2
tells_no_reply image a (inr x) = ap is_reply x.2

-- what a person is shown
pub shows_no_reply : (owner : List ℕ) (cs : History) (p : Person) (reading : Reading) (a : TaskAnswer) → ShowsAsked owner cs p reading a → is_reply a ≡ false
shows_no_reply owner cs p reading a told = by told.0 told.2
  where
    by : (given : Result (Shown (List ShownRequest)) Refusal) → Tells given a → is_reply a ≡ false
    by (Ok shown) is = ap is_reply is
    by (Err r) is = refusal_no_reply r a is

module _ (shows : History → Type 0) (failed : Type 0) (leaves : History → History → Type 0) (cs : History) where
  -- ---- no call

  -- the desk still shows the history
  pub gives_none : (asks : Ruled → Type 0) (a : TaskAnswer) → is_reply a ≡ false → shows cs → leaves cs cs → GivesOne shows failed leaves cs asks a
  gives_none asks a silent still left = record { given = None; asked = tt; outcome = inl (silent, still); left = left }

  -- it has failed
  pub gives_failed : (asks : Ruled → Type 0) (a : TaskAnswer) → is_reply a ≡ false → failed → leaves cs cs → GivesOne shows failed leaves cs asks a
  gives_failed asks a silent fails left = record { given = None; asked = tt; outcome = inr (silent, inr fails); left = left }

  -- a read
  pub gives_read : (asks : Ruled → Type 0) (due : TaskAnswer → Type 0) (a : TaskAnswer) → ((x : TaskAnswer) → due x → is_reply x ≡ false)
      → Serves shows failed cs (IsRead cs due) a → leaves cs cs → GivesOne shows failed leaves cs asks a
  gives_read asks due a silent (inl served) left = gives_none asks a (silent a served.1.0) (subst shows served.1.1 served.2) left
  gives_read asks due a silent (inr (inl x)) left = gives_none asks a (ap is_reply x.0) x.1 left
  gives_read asks due a silent (inr (inr x)) left = gives_failed asks a (ap is_reply x.0) x.1 left

  -- an answer that is the same at every history
  pub gives_told : (asks : Ruled → Type 0) (due : TaskAnswer → Type 0) (a : TaskAnswer) → ((x : TaskAnswer) → due x → is_reply x ≡ false)
      → due a ⊎ (a ≡ no_memory) → shows cs → leaves cs cs → GivesOne shows failed leaves cs asks a
  gives_told asks due a silent (inl told) still left = gives_none asks a (silent a told) still left
  gives_told asks due a silent (inr memory) still left = gives_none asks a (ap is_reply memory) still left

  -- an outage
  pub gives_outage : (asks : Ruled → Type 0) (o : Outage) → (o ≢ outage.Store → shows cs) → (o ≡ outage.Store → failed) → leaves cs cs
      → GivesOne shows failed leaves cs asks (answer.Unavailable o)
  gives_outage asks outage.NoMemory same fails left = gives_none asks (answer.Unavailable outage.NoMemory) refl (same (λ e. let no : ⊥ = cc in no)) left
  gives_outage asks outage.Store same fails left = gives_failed asks (answer.Unavailable outage.Store) refl (fails refl) left
  gives_outage asks outage.Reopen same fails left = gives_none asks (answer.Unavailable outage.Reopen) refl (same (λ e. let no : ⊥ = cc in no)) left
  gives_outage asks outage.NotADesk same fails left = gives_none asks (answer.Unavailable outage.NotADesk) refl (same (λ e. let no : ⊥ = cc in no)) left

  -- ---- a call

  -- it gets a reply
  pub gives_reply : (asks : Ruled → Type 0) (c : Ruled) (reply : Reply) → IsCall c → asks c → runs.reply_in (runs.answer cs c) ≡ Some reply
      → shows (runs.next cs c) → leaves cs (runs.next cs c) → GivesOne shows failed leaves cs asks (answer.Reply reply)
  gives_reply asks c reply formed is told still left = record {
    given = Some c;
    asked = (formed, is);
    outcome = inl (λ other e. told ∙ ap Some (same other e), still);
    left = left;
  }
    where
      same : (other : Reply) → answer.Reply reply ≡ answer.Reply other → reply ≡ other
      same other e = cc

  -- it is refused, by the rules or for an outage
  pub gives_refusal : (asks : Ruled → Type 0) (c : Ruled) (r : Refusal) (a : TaskAnswer) → IsRefusal r a → IsCall c → asks c
      → (r ≢ refusals.Store → shows cs) → (r ≡ refusals.Store → failed) → leaves cs (runs.next cs c) → GivesOne shows failed leaves cs asks a
  gives_refusal asks c r a is formed asked same fails left = record {
    given = Some c;
    asked = (formed, asked);
    outcome = inr (
      refusal_no_reply r a is,
      elim (apart r) [
        | inl memory ↦ inl (same (λ e. let h : refusals.NoMemory ≡ refusals.Store = cc in cc))
        | inr (inl store) ↦ inr (fails store)
        | inr (inr others) ↦ inl (same others.1)
      ],
    );
    left = left;
  }

  -- ---- the request that asks for it

  wider : (asks more : Ruled → Type 0) → ((c : Ruled) → asks c → more c) → (o : Option Ruled) → IfSome o (λ c. IsCall c × asks c) → IfSome o (λ c. IsCall c × more c)
  wider asks more f None h = tt
  wider asks more f (Some c) h = (h.0, f c h.1)

  -- whatever asks for the call asks for it so, too
  pub gives_wider : (asks more : Ruled → Type 0) (a : TaskAnswer) → ((c : Ruled) → asks c → more c)
      → GivesOne shows failed leaves cs asks a → GivesOne shows failed leaves cs more a
  gives_wider asks more a f g = record { given = g.given; asked = wider asks more f g.given g.asked; outcome = g.outcome; left = g.left }

  -- the two requests are the same
  pub gives_as : {A : Type 0} → (asks : A → Ruled → Type 0) (x y : A) (a : TaskAnswer)
      → x ≡ y → GivesOne shows failed leaves cs (asks y) a → GivesOne shows failed leaves cs (asks x) a
  gives_as asks x y a e h = subst (λ z. GivesOne shows failed leaves cs (asks z) a) (sym e) h

  -- a body that is read so
  pub gives_body : (name key : List ℕ) (reads : Result Command Refused → Type 0) (read : Result (Result Command Refused) AllocError) (a : TaskAnswer) → IfOk read reads
      → GivesOne shows failed leaves cs (IsReadCall name key (λ r. read ≡ Ok r)) a → GivesOne shows failed leaves cs (IsReadCall name key reads) a
  gives_body name key reads read a is given =
      gives_wider (IsReadCall name key (λ r. read ≡ Ok r)) (IsReadCall name key reads) a (λ c x. (x.0, subst (λ r. IfOk r reads) x.1 is, x.2)) given

  -- a command that needs no reading
  pub gives_whole : (name key : List ℕ) (command : Command) (a : TaskAnswer)
      → GivesOne shows failed leaves cs (IsReadCall name key (λ r. as_read command ≡ Ok r)) a → GivesOne shows failed leaves cs (λ c. c ≡ call_of name key command) a
  gives_whole name key command a given =
      gives_wider (IsReadCall name key (λ r. as_read command ≡ Ok r)) (λ c. c ≡ call_of name key command) a
      (λ c x. x.2 ∙ ap (call_of name key) (whole x.0 x.1)) given
    where
      whole : (other : Command) → as_read command ≡ Ok (Ok other) → other ≡ command
      whole other e = cc
