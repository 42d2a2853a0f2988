-- Exchanges as events of a desk's life.
use Rattle.std.proofs.Common.{◌≡◌, ◌⊎◌, ◌∙◌, inl, inr, ℕ, Bool, true, false, All, List, [], ◌∷◌, ◌++◌, Option, Some, None, Result, Ok, Err, IfSome, IsTrue, refl, sym, ap, subst}
use Rattle.std.specs.List.{list_all}
use Rattle.std.proofs.lemmas.List.Elements.{All-cons, All-nil}
use Rattle.desk_types.specs.Formed.{IsCall}
use Rattle.desk_types.specs.declared.command.Call.{Call as Ruled}
use Rattle.desk_types.specs.declared.reply.Reply.{Reply}
use Rattle.desk_history.specs.Calls.{History, item}
use Rattle.desk_history.specs.Lives.{Event, MayLeave, ends_at_a_stop}
use Rattle.desk_history.specs.Runs as runs
use Rattle.desk_history.specs.declared.answer.Answer as ruling
use Rattle.desk_history.specs.declared.answer.Answer.TheVariants as ruled
use Rattle.http_calls.specs.Answers.{GivesNothing, no_memory}
use Rattle.http_calls.specs.Given.{RepliesTo, after, is_reply}
use Rattle.http_calls.specs.declared.answers.TaskAnswer.{TaskAnswer}
use Rattle.http_calls.specs.declared.answers.TaskAnswer.TheVariants as answer
use Rattle.http_exchange.specs.Living.{AddsEvents, ExchangesAddEvents, FailedAddNone, IsEventOf, StandsAfter, answered_with, is_told, stopped}
use Rattle.http_exchange.specs.Serving.{IsAskedIn, Responds, RespondsClosed, WhenAnswered}
use Rattle.http_exchange.specs.declared.served.HttpFault.{HttpFault}
use Rattle.http_exchange.specs.declared.served.Served.{Served}
use Rattle.http_exchange.specs.declared.served.Served.TheVariants.{Answered, Nothing}

-- ---- the events

-- an answer that is no reply isn't this one
no_reply : {A : Type 0} (told : TaskAnswer) (reply : Reply) → is_reply told ≡ false → told ≡ answer.Reply reply → A
no_reply told reply silent is = absurd (let both : is_reply (answer.Reply reply) ≡ false = subst (λ a. is_reply a ≡ false) is silent in cc)

-- a desk that can give nothing replies to nothing
nothing_no_reply : (told : TaskAnswer) → GivesNothing told → is_reply told ≡ false
nothing_no_reply (answer.Reply reply) h = absurd h
nothing_no_reply (answer.Shown given) h = refl
nothing_no_reply (answer.Verdict verdict facts) h = refl
nothing_no_reply (answer.Facts facts) h = refl
nothing_no_reply (answer.Refused refused) h = refl
nothing_no_reply (answer.Unavailable outage) h = refl

module _ (cs : History) (input held holds : Option (List ℕ)) (result : Result Served HttpFault) (told : TaskAnswer) (responds : WhenAnswered result (Responds held holds told)) where
  -- none
  adds_none : is_reply told ≡ false → AddsEvents cs input held holds result []
  adds_none silent = record { told = told; responds = responds; replied = λ reply is. no_reply told reply silent is; asked = All-nil (IsEventOf cs input) }

  -- that of the call that was given
  adds_one : (e : Event) (c : Ruled) → e.item ≡ item c → IsCall c × IsAskedIn cs input c
      → ((reply : Reply) → told ≡ answer.Reply reply → e ≡ answered_with c reply) → AddsEvents cs input held holds result (e ∷ [])
  adds_one e c is asked replied = record {
    told = told;
    responds = responds;
    replied = λ reply same. (c, ap (λ x. x ∷ []) (replied reply same));
    asked = All-cons (IsEventOf cs input) e [] (c, is, asked.0, asked.1) (All-nil (IsEventOf cs input));
  }

-- ---- the desk

module _ {D : Type 0} (shows : D → List ℕ → History → Type 0) (failed : D → Type 0) (leaves : D → List ℕ → History → History → Type 0) (new : D) (owner : List ℕ) (cs : History)
    (input held holds : Option (List ℕ)) (result : Result Served HttpFault) (told : TaskAnswer) (responds : WhenAnswered result (Responds held holds told)) where
  -- an exchange adds these events, and the desk stands so
  abbrev Adds : Type 0
  Adds = (events : List Event) × (later : History) × AddsEvents cs input held holds result events × StandsAfter shows failed leaves new owner cs events later

  still_shown : is_reply told ≡ false → shows new owner cs → Adds
  still_shown silent still = ([], cs, adds_none cs input held holds result told responds silent, record { left = refl; stands = inl (refl, still) })

  failed_alone : is_reply told ≡ false → failed new → leaves new owner cs cs → Adds
  failed_alone silent fails left =
      ([], cs, adds_none cs input held holds result told responds silent, record { left = refl; stands = inr (fails, refl, cs, refl, left) })

  failed_in : (c : Ruled) → IsCall c × IsAskedIn cs input c → is_reply told ≡ false → failed new → leaves new owner cs (runs.next cs c) → Adds
  failed_in c asked silent fails left = (
    stopped c ∷ [],
    cs,
    adds_one cs input held holds result told responds (stopped c) c refl asked (λ reply is. no_reply told reply silent is),
    record {
      left = (cs, inl refl, refl);
      stands = inr (fails, refl, runs.next cs c, (runs.next cs c, inr refl, refl), left);
    },
  )

  -- the call was replied to
  replied : (c : Ruled) (given : Reply) → IsCall c × IsAskedIn cs input c → runs.reply_in (runs.answer cs c) ≡ Some given
      → RepliesTo cs (Some c) told → shows new owner (runs.next cs c) → Adds
  replied c given asked is replies still = (
    answered_with c given ∷ [],
    runs.next cs c,
    adds_one cs input held holds result told responds (answered_with c given) c refl asked (λ reply same. ap (answered_with c) (one reply (sym is ∙ replies reply same))),
    record { left = (runs.next cs c, (is, refl), refl); stands = inl (refl, still) },
  )
    where
      one : (reply : Reply) → Some given ≡ Some reply → given ≡ reply
      one reply e = cc

  -- or refused
  ruled_out : (c : Ruled) → runs.reply_in (runs.answer cs c) ≡ None → runs.is_accepted (runs.answer cs c) ≡ false
      → RepliesTo cs (Some c) told → shows new owner (runs.next cs c) → Adds
  ruled_out c none out replies still = (
    [],
    cs,
    record { told = told; responds = responds; replied = λ reply same. absurd (never reply (sym none ∙ replies reply same)); asked = All-nil (IsEventOf cs input) },
    record { left = refl; stands = inl (refl, subst (shows new owner) (rw out refl) still) },
  )
    where
      never : (reply : Reply) → None ≡ Some reply → ⊥
      never reply e = cc

  by_rules : (c : Ruled) → IsCall c × IsAskedIn cs input c → RepliesTo cs (Some c) told → shows new owner (runs.next cs c) → Adds
  by_rules c asked replies still = by (runs.answer cs c) refl
    where
      by : (said : ruling.Answer) → runs.answer cs c ≡ said → Adds
      by (ruled.Accepted reply) e = replied c reply asked (ap runs.reply_in e) replies still
      by (ruled.Repeated reply) e = replied c reply asked (ap runs.reply_in e) replies still
      by (ruled.Refused refusal) e = ruled_out c (ap runs.reply_in e) (ap runs.is_accepted e) replies still

  given_adds : (given : Option Ruled) → IfSome given (λ c. IsCall c × IsAskedIn cs input c)
      → (RepliesTo cs given told × shows new owner (after cs given)) ⊎ ((is_reply told ≡ false) × (shows new owner cs ⊎ failed new))
      → leaves new owner cs (after cs given) → Adds
  given_adds None asked (inl x) left = still_shown x.0 x.1
  given_adds (Some c) asked (inl x) left = by_rules c asked x.0 x.1
  given_adds None asked (inr x) left = unanswered x.0 x.1
    where
      unanswered : is_reply told ≡ false → shows new owner cs ⊎ failed new → Adds
      unanswered silent (inl still) = still_shown silent still
      unanswered silent (inr fails) = failed_alone silent fails left
  given_adds (Some c) asked (inr x) left = unanswered x.0 x.1
    where
      unanswered : is_reply told ≡ false → shows new owner cs ⊎ failed new → Adds
      unanswered silent (inl still) = still_shown silent still
      unanswered silent (inr fails) = failed_in c asked silent fails left

-- ---- a desk that has failed

closed_adds : (cs : History) (input held holds : Option (List ℕ)) (result : Result Served HttpFault) → RespondsClosed input held holds result → AddsEvents cs input held holds result []
closed_adds cs input held holds (Ok (Answered answered)) closed =
    let told = closed.answered in adds_none cs input held holds (Ok (Answered answered)) told.0 told.1 (nothing_no_reply told.0 told.2.nothing)
closed_adds cs input held holds (Ok Nothing) closed = adds_none cs input held holds (Ok Nothing) no_memory tt refl
closed_adds cs input held holds (Err fault) closed = adds_none cs input held holds (Err fault) no_memory tt refl

module _ {D : Type 0} (shows : D → List ℕ → History → Type 0) (clean failed : D → Type 0) (leaves : D → List ℕ → History → History → Type 0) (old new : D) where
  pub exchanges_add_events : ExchangesAddEvents shows clean failed leaves old new
  exchanges_add_events owner cs input held holds result one is_clean shown =
      let at = one.gives is_clean owner cs shown in
      given_adds shows failed leaves new owner cs input held holds result at.0 at.1 at.2.given at.2.asked at.2.outcome at.2.left

  pub failed_add_none : FailedAddNone shows clean failed leaves old new
  failed_add_none cs input held holds result one was =
      let shut = one.closed was in (closed_adds cs input held holds result shut.1, shut.0)

-- ---- events one after another

pub leave_both : (cs : History) (events more : List Event) (middle end : History) → MayLeave cs events middle → MayLeave middle more end → MayLeave cs (events ++ more) end
leave_both cs [] more middle end first second = subst (λ h. MayLeave h more end) first second
leave_both cs (e ∷ events) more middle end first second = (first.0, first.1, leave_both first.0 events more middle end first.2 second)
