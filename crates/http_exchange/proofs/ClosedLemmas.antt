-- A request to a desk that has failed: the part of it that is known, and its answer.
use Rattle.std.proofs.Common.{◌≡◌, ◌≢◌, ◌∙◌, inl, inr, ℕ, List, [], refl, sym, subst, Option, Some, None, Result, Ok, Err, IfSome, MatchResult}
use Rattle.std.specs.Prelude.{IfErr, IsErr}
use Rattle.httparse.specs.Grammar.{ReadsRequest, RequestHead}
use Rattle.desk_history.specs.Calls.{History}
use Rattle.http_requests.specs.heads.Fields.{parts_of}
use Rattle.http_requests.specs.heads.Heads.{FindsOf}
use Rattle.http_requests.specs.declared.heads.begun.HeadRead.TheVariants.{Head, NoHead}
use Rattle.http_requests.specs.CheckedHead.{Want, wanted_of}
use Rattle.http_requests.specs.declared.fault.WantedFault.{WantedFault}
use Rattle.http_responses.specs.declared.outage.Outage.{Outage}
use Rattle.http_responses.specs.declared.outage.Outage.TheVariants as outage
use Rattle.http_responses.specs.declared.refused.Refused.{Refused as Refusing}
use Rattle.http_responses.specs.declared.refused.Refused.TheVariants as refused
use Rattle.http_calls.specs.Answers.{GivesNothing, IsClosed, no_memory, reopened}
use Rattle.http_calls.specs.declared.answers.TaskAnswer.{TaskAnswer}
use Rattle.http_calls.specs.declared.answers.TaskAnswer.TheVariants.{Refused, Unavailable}
use Rattle.http_exchange.specs.Asked.{Asks, CallOrRefusal, due_of}
use Rattle.http_exchange.specs.Refused.{refused_by_head}
use Rattle.http_exchange.specs.Sending.{Replaces}
use Rattle.http_exchange.specs.Serving.{AnswersInput, RespondsClosed, TellsClosed}
use Rattle.http_exchange.specs.Unread.{CanCome, IsOfClosed, IsOwn}
use Rattle.http_exchange.specs.declared.served.HttpFault.{HttpFault}
use Rattle.http_exchange.specs.declared.served.HttpFault.TheVariants as http
use Rattle.http_exchange.specs.declared.served.Served.{Served}
use Rattle.http_exchange.specs.declared.served.Served.TheVariants.{Answered, Nothing}
use Rattle.http_exchange.specs.declared.served.Unread.{Unread}
use Rattle.http_exchange.specs.declared.served.Unread.TheVariants as unread
use Rattle.http_exchange.proofs.AskLemmas.{head_reads_itself}
use Rattle.http_exchange.proofs.SendLemmas.{SendsFor}

-- ---- faults that come without a desk

pub own_can_come : (u : Unread) → IsOwn u → CanCome u
own_can_come unread.Read h = tt
own_can_come unread.NoMemory h = tt
own_can_come (unread.Outage outage.NoMemory) h = tt
own_can_come (unread.Outage outage.Store) h = tt
own_can_come (unread.Outage outage.Reopen) h = h
own_can_come (unread.Outage outage.NotADesk) h = h

pub own_of_closed : (u : Unread) → IsOwn u → IsOfClosed u
own_of_closed unread.Read h = tt
own_of_closed unread.NoMemory h = tt
own_of_closed (unread.Outage outage.NoMemory) h = tt
own_of_closed (unread.Outage outage.Store) h = h
own_of_closed (unread.Outage outage.Reopen) h = tt
own_of_closed (unread.Outage outage.NotADesk) h = h

pub own_result_can_come : (r : Result CallOrRefusal Unread) → IfErr r IsOwn → IfErr r CanCome
own_result_can_come (Ok due) h = tt
own_result_can_come (Err u) h = own_can_come u h

pub own_no_store : (r : Result CallOrRefusal Unread) → IfErr r IsOwn → r ≡ Err (unread.Outage outage.Store) → ⊥
own_no_store r h e = subst (λ x. IfErr x IsOwn) e h

pub outage_of_closed : (u : Unread) → u ≡ unread.Outage outage.Reopen → IsOfClosed u
outage_of_closed u e = subst IsOfClosed (sym e) tt

-- ---- by the head

-- the answer that is due to a head whatever the history is
abbrev IsDueOfAll : List ℕ → CallOrRefusal → Type 0
IsDueOfAll head due =
    IsErr due × ((h : RequestHead) (q : List ℕ) → ReadsRequest head h q → (cs : History) (rest : List ℕ) → due ≡ due_of cs h rest)

-- a head without a token
pub closed_ask : (head : List ℕ) (v : Want) (r : Result CallOrRefusal Unread)
    → ((h : RequestHead) (q : List ℕ) → ReadsRequest head h q → wanted_of (parts_of h) ≡ Ok v)
    → MatchResult r (λ due. (due ≡ Err refused.UnknownCaller) × (v.token ≡ None)) (λ u. u ≡ unread.Outage outage.Reopen)
    → MatchResult r (IsDueOfAll head) (λ u. u ≡ unread.Outage outage.Reopen)
closed_ask head v (Err u) found is = is
closed_ask head v (Ok due) found is =
    let P : CallOrRefusal → Type 0 = IsErr in
    (subst P (sym is.0) refl, λ h q reads cs rest. is.0 ∙ rw (found h q reads, is.1) refl)

-- a head with a fault
pub closed_refuse : (head : List ℕ) (f : WantedFault) (x : Refusing) → x ≡ refused_by_head f
    → ((h : RequestHead) (q : List ℕ) → ReadsRequest head h q → wanted_of (parts_of h) ≡ Err f)
    → IsDueOfAll head (Err x)
closed_refuse head f x is found = (refl, λ h q reads cs rest. rw (is, found h q reads) refl)

-- ---- by the input

pub closed_head : (old mid : Option (List ℕ)) (taken : List ℕ) (due : CallOrRefusal)
    → FindsOf old mid (Head taken) → IsDueOfAll taken due → IfSome old (λ b. (cs : History) → Asks cs b due)
closed_head None mid taken due found all = tt
closed_head (Some b) mid taken due found all =
    let reads : ReadsRequest taken found.0 [] = rw found.3 (head_reads_itself b found.0 found.1 found.2) in
    λ cs. inl (found.0, found.1, found.2, all.1 found.0 [] reads cs found.1)

pub closed_none : (old mid : Option (List ℕ)) → FindsOf old mid NoHead → IfSome old (λ b. (cs : History) → Asks cs b (Err refused.BadHead))
closed_none None mid found = tt
closed_none (Some b) mid found = λ cs. inr (found.0, found.1, refl)

-- ---- the answer

-- a refusal that is due of every history
pub closed_due : (input : Option (List ℕ)) (due : CallOrRefusal) (a : TaskAnswer) (stays : Type 0)
    → IsErr due × IfSome input (λ b. (cs : History) → Asks cs b due) → IfErr due (λ refused. (a ≡ Refused refused) × stays)
    → TellsClosed input a × stays
closed_due input (Ok call) a stays known told = absurd (let no : ⊥ = (let h = known.0 in cc) in no)
closed_due None (Err x) a stays known told = (
  record {
    nothing = subst GivesNothing (sym told.0) tt;
    closed = inr (inr (λ owner cs. record { due = Err x; asked = tt; answered = (told.0, refl) }));
  },
  told.1,
)
closed_due (Some b) (Err x) a stays known told = (
  record {
    nothing = subst GivesNothing (sym told.0) tt;
    closed = inr (inr (λ owner cs. record { due = Err x; asked = known.1 cs; answered = (told.0, refl) }));
  },
  told.1,
)

-- an outage of a desk that has failed
pub closed_outage : (input : Option (List ℕ)) (o : Outage) → IsOfClosed (unread.Outage o) → TellsClosed input (Unavailable o)
closed_outage input outage.NoMemory h = record { nothing = tt; closed = inr (inl refl) }
closed_outage input outage.Store h = absurd h
closed_outage input outage.Reopen h = record { nothing = tt; closed = inl refl }
closed_outage input outage.NotADesk h = absurd h

-- the answer that is sent for this one
told_closed : (input : Option (List ℕ)) (a told : TaskAnswer) → TellsClosed input a → Replaces a told → TellsClosed input told
told_closed input a told closed (inl e) = subst (TellsClosed input) (sym e) closed
told_closed input a told closed (inr x) = record { nothing = subst GivesNothing (sym x.0) tt; closed = inr (inl x.0) }

-- the response of a desk that has failed, as it went out
pub responds_closed : (input before after : Option (List ℕ)) (a : TaskAnswer) (r : Result Served HttpFault)
    → TellsClosed input a → SendsFor before after a r → RespondsClosed input before after r
responds_closed input before after a (Ok (Answered answered)) closed sent = record {
  answered = (sent.0, sent.2, told_closed input a sent.0 closed sent.1);
  unwritten = tt;
}
responds_closed input before after a (Ok Nothing) closed sent = absurd sent.2
responds_closed input before after a (Err http.Read) closed sent = absurd sent.2
responds_closed input before after a (Err http.Write) closed sent = record {
  answered = tt;
  unwritten = (sent.0, sent.2, told_closed input a sent.0 closed sent.1);
}
responds_closed input before after a (Err http.NoMemory) closed sent = absurd sent.2

-- nothing went out
pub nothing_closed : (input before after : Option (List ℕ)) (f : HttpFault) → f ≢ http.Write → RespondsClosed input before after (Err f)
nothing_closed input before after http.Read differs = record { answered = tt; unwritten = tt }
nothing_closed input before after http.Write differs = absurd (differs refl)
nothing_closed input before after http.NoMemory differs = record { answered = tt; unwritten = tt }
