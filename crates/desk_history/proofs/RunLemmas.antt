-- Runs, and the calls that they accept.
use Rattle.std.proofs.Common.{◌≡◌, ℕ, Bool, true, false, not, ◌&&◌, List, [], ◌∷◌, ◌++◌, Option, Some, None, refl, sym, ◌∙◌, ap, subst, append_assoc, ◌≤◌, length, arith}
use Rattle.std.specs.Prelude.{if◌then◌else◌, bytes_eq, nat_le}
use Rattle.std.specs.List.{list_all}
use Rattle.std.specs.Option.{option_or}
use Rattle.std.proofs.lemmas.Bool.{and_parts}
use Rattle.std.proofs.lemmas.Bool.Decides.{nat_tests}
use Rattle.base.specs.declared.refusal.Refusal.{Refusal}
use Rattle.base.specs.declared.refusal.Refusal.TheVariants as refusals
use Rattle.desk_types.specs.declared.command.Call.{Call}
use Rattle.desk_types.specs.declared.command.Command.{Command}
use Rattle.desk_types.specs.declared.reply.Reply.{Reply}
use Rattle.desk_types.specs.Callers.{caller_name}
use Rattle.desk_history.specs.Calls.{First, GoesOnFrom, History, Item, Rules, Second, distinct, is_first, item, under}
use Rattle.desk_types.specs.CommandTexts.{text_of}
use Rattle.desk_history.specs.declared.rows.Minute.{Minute}
use Rattle.desk_history.specs.Replies.{reply_to}
use Rattle.desk_history.specs.Level.{generations, names}
use Rattle.desk_history.specs.Listing.{listed}
use Rattle.desk_history.specs.People.{people}
use Rattle.desk_history.specs.Proposals.{proposals}
use Rattle.desk_history.specs.Requests.{requests}
use Rattle.desk_history.specs.Revocations.{revocations}
use Rattle.desk_types.specs.declared.kind.ListedKind.TheVariants as kinds
use Rattle.desk_history.specs.declared.answer.Answer.TheVariants.{Refused, Repeated}
use Rattle.desk_history.specs.Laws.{LegalIsRun, RunsGoOn}
use Rattle.desk_history.specs.Limits.{is_within, most_calls, most_level_components, most_listed, most_people, most_proposals, most_requests, most_revoked_certificates, most_revoked_digests}
use Rattle.desk_history.specs.Refusals.{is_known, may_give, own_refusal, refuse_if}
use Rattle.desk_history.specs.Runs.{answer_known, earlier, is_accepted, is_legal, joins, may_follow, next_item, run, run_by, ruling}

-- the item with this command
abbrev pub giving : Item → Command → Item
giving i given = record i { call = record i.call { command = given } }

-- the facts of an item that is accepted
pub record IsNew (cs : History) (i : Item) : Type 0 where
  pub fresh : earlier cs i.call ≡ None
  pub allowed : may_give cs i.call.caller i.call.command ≡ true
  pub own : own_refusal cs (caller_name i.call.caller) i.call.command ≡ None
  pub within : is_within (i ∷ cs) ≡ true

record Parts (m : Option Minute) (allowed : Bool) (own : Option Refusal) (within : Bool) : Type 0 where
  is_fresh : m ≡ None
  is_allowed : allowed ≡ true
  is_right : own ≡ None
  has_room : within ≡ true

no_parts : {A : Type 0} → false ≡ true → A
no_parts e = cc

parts : (known : Bool) (m : Option Minute) (text : List ℕ) (allowed : Bool) (own : Option Refusal) (within : Bool) (reply : Reply) →
    is_accepted (if not known then Refused refusals.UnknownCaller else answer_known m text (if not allowed then Some refusals.NotYourRole else option_or own (refuse_if (not within) refusals.Full)) reply) ≡ true → Parts m allowed own within
parts false m text allowed own within reply h = no_parts h
parts true (Some m) text allowed own within reply h =
    elim (bytes_eq m.text text) as (λ b. is_accepted (if b then Repeated m.reply else Refused refusals.KeyReused) ≡ true → Parts (Some m) allowed own within) [ true ↦ λ e. no_parts e | false ↦ λ e. no_parts e ] h
parts true None text false own within reply h = no_parts h
parts true None text true (Some refusal) within reply h = no_parts h
parts true None text true None false reply h = no_parts h
parts true None text true None true reply h = record { is_fresh = refl; is_allowed = refl; is_right = refl; has_room = refl }

pub accepted_parts : (cs : History) (i : Item) → is_accepted (ruling cs i) ≡ true → IsNew cs i
accepted_parts cs i h =
    let p : Parts (earlier cs i.call) (may_give cs i.call.caller i.call.command) (own_refusal cs (caller_name i.call.caller) i.call.command) (is_within (i ∷ cs)) =
    parts (is_known cs i.call.caller) (earlier cs i.call) (text_of i.call.command) (may_give cs i.call.caller i.call.command) (own_refusal cs (caller_name i.call.caller) i.call.command) (is_within (i ∷ cs)) (reply_to cs i) h in
    record { fresh = p.is_fresh; allowed = p.is_allowed; own = p.is_right; within = p.has_room }

-- the facts of the newest item of a legal history
pub record IsNewest (cs : History) (i : Item) : Type 0 where
  pub accepted : is_accepted (ruling cs i) ≡ true
  pub follows : may_follow cs i ≡ true
  pub new : IsNew cs i
  pub before : is_legal cs ≡ true

pub newest : (cs : History) (i : Item) → is_legal (i ∷ cs) ≡ true → IsNewest cs i
newest cs i h =
    let both : (joins cs i ≡ true) × (is_legal cs ≡ true) = and_parts (joins cs i) (is_legal cs) h in
    let here : (is_accepted (ruling cs i) ≡ true) × (may_follow cs i ≡ true) = and_parts (is_accepted (ruling cs i)) (may_follow cs i) both.0 in
    record { accepted = here.0; follows = here.1; new = accepted_parts cs i here.0; before = both.1 }

legal_more : (cs : History) (i : Item) → is_accepted (ruling cs i) ≡ true → may_follow cs i ≡ true → is_legal cs ≡ true → is_legal (i ∷ cs) ≡ true
legal_more cs i a f h = rw (a, f) h

-- the history after an item is the one before it, or the item was accepted
pub by_next : (P : History → Type 0) (cs : History) (i : Item) → P cs → (is_accepted (ruling cs i) ≡ true → P (i ∷ cs)) → P (next_item cs i)
by_next P cs i same more =
    elim (is_accepted (ruling cs i)) as (λ b. is_accepted (ruling cs i) ≡ b → P (if b then i ∷ cs else cs)) [ true ↦ more | false ↦ λ _. same ] refl

pub next_goes_on : (cs : History) (i : Item) → GoesOnFrom cs (next_item cs i)
next_goes_on cs i = by_next (GoesOnFrom cs) cs i ([], refl) (λ _. (i ∷ [], refl))

pub next_legal : (cs : History) (i : Item) → may_follow cs i ≡ true → is_legal cs ≡ true → is_legal (next_item cs i) ≡ true
next_legal cs i f h = by_next (λ later. is_legal later ≡ true) cs i h (λ e. legal_more cs i e f h)

pub goes_on-trans : (a b c : History) → GoesOnFrom a b → GoesOnFrom b c → GoesOnFrom a c
goes_on-trans a b c f g = (g.0 ++ f.0, g.1 ∙ ap (λ r. g.0 ++ r) f.1 ∙ sym (append_assoc g.0 f.0 a))

run_goes_on : (rules : Rules) (cs : History) (calls : List Call) → GoesOnFrom cs (run_by rules cs calls)
run_goes_on rules cs [] = ([], refl)
run_goes_on rules cs (c ∷ calls) =
    goes_on-trans cs (next_item cs (under rules c)) (run_by rules (next_item cs (under rules c)) calls) (next_goes_on cs (under rules c)) (run_goes_on rules (next_item cs (under rules c)) calls)

run-append : (rules : Rules) (cs : History) (calls more : List Call) → run_by rules cs (calls ++ more) ≡ run_by rules (run_by rules cs calls) more
run-append rules cs [] more = refl
run-append rules cs (c ∷ calls) more = run-append rules (next_item cs (under rules c)) calls more

pub runs_go_on : RunsGoOn
runs_go_on cs calls more = subst (GoesOnFrom (run cs calls)) (sym (run-append Second cs calls more)) (run_goes_on Second (run cs calls) more)

-- a run by the second rules keeps legal what is
run_legal : (cs : History) (calls : List Call) → is_legal cs ≡ true → is_legal (run cs calls) ≡ true
run_legal cs [] h = h
run_legal cs (c ∷ calls) h = run_legal (next_item cs (item c)) calls (next_legal cs (item c) refl h)

-- and one by the first rules, where all was by them
record AreFirst (cs : History) : Type 0 where
  legal : is_legal cs ≡ true
  first : list_all is_first cs ≡ true

first_next : (cs : History) (c : Call) → AreFirst cs → AreFirst (next_item cs (under First c))
first_next cs c h = by_next AreFirst cs (under First c) h (λ e. record { legal = legal_more cs (under First c) e h.first h.legal; first = h.first })

first_legal : (cs : History) (calls : List Call) → AreFirst cs → AreFirst (run_by First cs calls)
first_legal cs [] h = h
first_legal cs (c ∷ calls) h = first_legal (next_item cs (under First c)) calls (first_next cs c h)

stepped : (cs : History) (i : Item) → is_accepted (ruling cs i) ≡ true → next_item cs i ≡ i ∷ cs
stepped cs i h = rw h refl

-- a history of the first rules alone is a run by them
first_run : (cs : History) → is_legal cs ≡ true → list_all is_first cs ≡ true → (calls : List Call) × (cs ≡ run_by First [] calls)
first_run [] h f = ([], refl)
first_run (i ∷ cs) h f =
    let here = newest cs i h in
    let all : (is_first i ≡ true) × (list_all is_first cs ≡ true) = and_parts (is_first i) (list_all is_first cs) f in
    let before : (calls : List Call) × (cs ≡ run_by First [] calls) = first_run cs here.before all.1 in
    let mine : under First i.call ≡ i = first_item i.call i.rules all.0 in (
      before.0 ++ i.call ∷ [],
      sym (run-append First [] before.0 (i.call ∷ []) ∙ ap (λ l. next_item l (under First i.call)) (sym before.1) ∙ ap (next_item cs) mine ∙ stepped cs i here.accepted),
    )
  where
    first_item : (c : Call) (rules : Rules) → is_first (under rules c) ≡ true → under First c ≡ under rules c
    first_item c First e = refl
    first_item c Second e = no_parts e

abbrev IsRun : History → Type 0
IsRun cs = (first more : List Call) × (cs ≡ run (run_by First [] first) more)

one_more : (cs : History) (c : Call) (rules : Rules) → is_legal (under rules c ∷ cs) ≡ true → IsRun cs → IsRun (under rules c ∷ cs)
one_more cs c First h r =
    let here = newest cs (under First c) h in
    let alone = first_run (under First c ∷ cs) h here.follows in
    (alone.0, [], alone.1)
one_more cs c Second h r =
    let here = newest cs (under Second c) h in (
      r.0,
      r.1 ++ c ∷ [],
      sym (run-append Second (run_by First [] r.0) r.1 (c ∷ []) ∙ ap (λ l. next_item l (under Second c)) (sym r.2) ∙ stepped cs (under Second c) here.accepted),
    )

legal_run : (cs : History) → is_legal cs ≡ true → IsRun cs
legal_run [] h = ([], [], refl)
legal_run (i ∷ cs) h = one_more cs i.call i.rules h (legal_run cs (newest cs i h).before)

pub legal_histories_are_runs : LegalIsRun
legal_histories_are_runs cs =
    (legal_run cs, λ r. subst (λ h. is_legal h ≡ true) (sym r.2) (run_legal (run_by First [] r.0) r.1 (first_legal [] r.0 (record { legal = refl; first = refl })).legal))

-- a legal history keeps within what a desk may hold
legal_within : (cs : History) → is_legal cs ≡ true → is_within cs ≡ true
legal_within [] h = refl
legal_within (i ∷ cs) h = (newest cs i h).new.within

-- a history keeps within each limit
pub record Within (cs : History) : Type 0 where
  pub people : nat_le (length (people cs)) most_people ≡ true
  pub requests : nat_le (length (requests cs)) most_requests ≡ true
  pub proposals : nat_le (length (proposals cs)) most_proposals ≡ true
  pub listed : nat_le (length (listed cs)) most_listed ≡ true
  pub digests : nat_le (length (distinct (revocations kinds.Digest cs))) most_revoked_digests ≡ true
  pub certificates : nat_le (length (distinct (revocations kinds.Certificate cs))) most_revoked_certificates ≡ true
  pub components : nat_le (length (names (generations cs))) most_level_components ≡ true

record All7 (a b d e f g h : Bool) : Type 0 where
  first : a ≡ true
  second : b ≡ true
  third : d ≡ true
  fourth : e ≡ true
  fifth : f ≡ true
  sixth : g ≡ true
  seventh : h ≡ true

all_seven : (a b d e f g h i : Bool) → (a && b && d && e && f && g && h && i) ≡ true → All7 a b d e f g h
all_seven true true true true true true true i k =
    record { first = refl; second = refl; third = refl; fourth = refl; fifth = refl; sixth = refl; seventh = refl }
all_seven true true true true true true false i k = no_parts k
all_seven true true true true true false h i k = no_parts k
all_seven true true true true false g h i k = no_parts k
all_seven true true true false f g h i k = no_parts k
all_seven true true false e f g h i k = no_parts k
all_seven true false d e f g h i k = no_parts k
all_seven false b d e f g h i k = no_parts k

-- that is so of one within what a desk may hold
pub within_parts : (cs : History) → is_within cs ≡ true → Within cs
within_parts cs h =
    let seven : All7 (nat_le (length (people cs)) most_people) (nat_le (length (requests cs)) most_requests) (nat_le (length (proposals cs)) most_proposals) (nat_le (length (listed cs)) most_listed) (nat_le (length (distinct (revocations kinds.Digest cs))) most_revoked_digests) (nat_le (length (distinct (revocations kinds.Certificate cs))) most_revoked_certificates) (nat_le (length (names (generations cs))) most_level_components) =
    all_seven (nat_le (length (people cs)) most_people) (nat_le (length (requests cs)) most_requests) (nat_le (length (proposals cs)) most_proposals) (nat_le (length (listed cs)) most_listed)
    (nat_le (length (distinct (revocations kinds.Digest cs))) most_revoked_digests) (nat_le (length (distinct (revocations kinds.Certificate cs))) most_revoked_certificates)
    (nat_le (length (names (generations cs))) most_level_components) (nat_le (length cs) most_calls) h in
    record { people = seven.first; requests = seven.second; proposals = seven.third; listed = seven.fourth; digests = seven.fifth; certificates = seven.sixth; components = seven.seventh }

-- and of each legal one
pub legal_parts : (cs : History) → is_legal cs ≡ true → Within cs
legal_parts cs h = within_parts cs (legal_within cs h)

-- a legal history has room for a proposal's number
pub legal_proposals : (cs : History) → is_legal cs ≡ true → length (proposals cs) ≤ 100000
legal_proposals cs h = let within : nat_le (length (proposals cs)) 100000 ≡ true = (legal_parts cs h).proposals in grind (arith, nat_tests, within)

-- a legal history has room for a request's number
pub legal_room : (cs : History) → is_legal cs ≡ true → length (requests cs) ≤ 100000
legal_room cs h = let within : nat_le (length (requests cs)) 100000 ≡ true = (legal_parts cs h).requests in grind (arith, nat_tests, within)

-- those before the newest of a legal history are legal
pub legal_rest : (cs : History) (i : Item) (rest : History) → cs ≡ i ∷ rest → is_legal cs ≡ true → is_legal rest ≡ true
legal_rest cs i rest is h = (newest rest i (subst (λ l. is_legal l ≡ true) is h)).before
