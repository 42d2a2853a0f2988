-- The events by which a history goes on from an earlier one.
use Rattle.std.proofs.Common.{◌≡◌, ◌⊎◌, inl, inr, ℕ, All, Bool, true, false, not, List, [], ◌∷◌, ◌++◌, Option, Some, None, refl, sym, ap, subst, ◌∙◌, append-nil, append_assoc}
use Rattle.std.specs.Prelude.{if◌then◌else◌, bytes_eq, map}
use Rattle.std.specs.List.{list_all}
use Rattle.std.proofs.lemmas.Bool.{and_parts}
use Rattle.std.proofs.lemmas.List.Elements.{All-append, All-cons, All-head, All-nil, All-tail, filter-append}
use Rattle.std.proofs.lemmas.List.Folds.{list_all-append}
use Rattle.base.specs.declared.refusal.Refusal.{Refusal}
use Rattle.base.specs.declared.refusal.Refusal.TheVariants as refusals
use Rattle.desk_types.specs.CommandTexts.{text_of}
use Rattle.desk_types.proofs.FormLemmas.{joined}
use Rattle.desk_types.specs.declared.command.Call.{Call}
use Rattle.desk_types.specs.declared.reply.Reply.{Reply}
use Rattle.desk_history.specs.Calls.{First, History, Item, Rules, Second, is_first, under}
use Rattle.desk_history.specs.Formed.{IsItem}
use Rattle.desk_history.specs.Lives.{Answered, Event, Fate, MayLeave, MayTurn, Refused, Stopped, are_rules}
use Rattle.desk_history.specs.Refusals.{is_known, refusal_of}
use Rattle.desk_history.specs.Replies.{reply_to}
use Rattle.desk_history.specs.Runs.{answer_known, earlier, is_accepted, is_legal, next_item, reply_in, ruling}
use Rattle.desk_history.specs.declared.answer.Answer.TheVariants.{Refused as IsRefused, Repeated}
use Rattle.desk_history.specs.declared.rows.Minute.{Minute}
use Rattle.desk_history.proofs.LifeLemmas.{left_goes_on}
use Rattle.desk_history.proofs.RunLemmas.{newest}
use Rattle.store_desk.specs.Living.{is_told}
use Rattle.store_follow.specs.Series.{answered, event_by_first, events_after, events_by}

pub no_way : {A : Type 0} → false ≡ true → A
no_way e = cc

-- ---- the events lead from the earlier history to the later one

-- a call that is accepted is answered with its reply
accepted_is : (known : Bool) (m : Option Minute) (text : List ℕ) (refused : Option Refusal) (new : Reply) →
    is_accepted (if not known then IsRefused refusals.UnknownCaller else answer_known m text refused new) ≡ true →
    reply_in (if not known then IsRefused refusals.UnknownCaller else answer_known m text refused new) ≡ Some new
accepted_is false m text refused new a = no_way a
accepted_is true None text None new a = refl
accepted_is true None text (Some r) new a = no_way a
accepted_is true (Some m) text refused new a =
    elim (bytes_eq m.text text) as (λ b. is_accepted (if b then Repeated m.reply else IsRefused refusals.KeyReused) ≡ true → reply_in (if b then Repeated m.reply else IsRefused refusals.KeyReused) ≡ Some new) [
      | true ↦ λ e. no_way e
      | false ↦ λ e. no_way e
    ] a

stepped : (cs : History) (i : Item) → is_accepted (ruling cs i) ≡ true → next_item cs i ≡ i ∷ cs
stepped cs i a = rw a refl

turns : (cs : History) (i : Item) → is_accepted (ruling cs i) ≡ true → MayTurn cs i (Answered (reply_to cs i)) (i ∷ cs)
turns cs i a = (accepted_is (is_known cs i.call.caller) (earlier cs i.call) (text_of i.call.command) (refusal_of cs i) (reply_to cs i) a, sym (stepped cs i a))

-- the histories after events, and then others
pub leave_on : (cs : History) (front back : List Event) (middle end : History) → MayLeave cs front middle → MayLeave middle back end → MayLeave cs (front ++ back) end
leave_on cs [] back middle end first second = subst (λ h. MayLeave h back end) first second
leave_on cs (e ∷ front) back middle end first second = (first.0, first.1, leave_on first.0 front back middle end first.2 second)

pub reaches : (before : History) (new : List Item) → is_legal (new ++ before) ≡ true → MayLeave before (events_after before new) (new ++ before)
reaches before [] h = refl
reaches before (i ∷ new) h =
    let here = newest (new ++ before) i h in
    leave_on before (events_after before new) (answered (new ++ before) i ∷ []) (new ++ before) (i ∷ new ++ before) (reaches before new here.before)
    (i ∷ new ++ before, turns (new ++ before) i here.accepted, refl)

-- the events before the last, and the last
last_of : (cs : History) (front : List Event) (e : Event) (end : History) → MayLeave cs (front ++ e ∷ []) end → (middle : History) × MayLeave cs front middle × MayTurn middle e.item e.fate end
last_of cs [] e end left = (cs, refl, subst (λ h. MayTurn cs e.item e.fate h) (sym left.2) left.1)
last_of cs (x ∷ front) e end left =
    let rest = last_of left.0 front e end left.2 in
    (rest.0, (left.0, left.1, rest.1), rest.2)

-- and to no other
pub reaches_only : (before : History) (new : List Item) (end : History) → is_legal (new ++ before) ≡ true → MayLeave before (events_after before new) end → end ≡ new ++ before
reaches_only before [] end h left = left
reaches_only before (i ∷ new) end h left =
    let here = newest (new ++ before) i h in
    let last = last_of before (events_after before new) (answered (new ++ before) i) end left in
    let same = reaches_only before new last.0 here.before last.1 in
    last.2.1 ∙ ap (λ h. next_item h i) same ∙ stepped (new ++ before) i here.accepted

-- ---- those by the first rules come before those by the second

no_second : (cs : History) (c : Call) (rules : Rules) → is_first (under rules c) ≡ true → events_by Second (answered cs (under rules c) ∷ []) ≡ []
no_second cs c First f = refl
no_second cs c Second f = no_way f

none_by_second : (before : History) (new : List Item) → list_all is_first (new ++ before) ≡ true → events_by Second (events_after before new) ≡ []
none_by_second before [] f = refl
none_by_second before (i ∷ new) f =
    let parts = and_parts (is_first i) (list_all is_first (new ++ before)) f in
    filter-append (λ (e : Event). are_rules Second e.item.rules) (events_after before new) (answered (new ++ before) i ∷ [])
    ∙ ap (λ l. l ++ events_by Second (answered (new ++ before) i ∷ [])) (none_by_second before new parts.1)
    ∙ no_second (new ++ before) i.call i.rules parts.0

one_more : (before : History) (new : List Item) (c : Call) (rules : Rules) → is_legal (under rules c ∷ new ++ before) ≡ true
    → events_by First (events_after before new) ++ events_by Second (events_after before new) ≡ events_after before new
    → events_by First (events_after before (under rules c ∷ new)) ++ events_by Second (events_after before (under rules c ∷ new)) ≡ events_after before (under rules c ∷ new)
one_more before new c First h same =
    let i = under First c in
    let events = events_after before new in
    let last = answered (new ++ before) i in
    let here = newest (new ++ before) i h in
    let firsts : events_by First (events ++ last ∷ []) ≡ events_by First events ++ last ∷ [] = filter-append (λ (e : Event). are_rules First e.item.rules) events (last ∷ []) in
    let none : events_by Second (events ++ last ∷ []) ≡ [] = none_by_second before (i ∷ new) here.follows in
    let before_it : events_by First events ≡ events =
    sym (append-nil (events_by First events)) ∙ ap (λ l. events_by First events ++ l) (sym (none_by_second before new here.follows)) ∙ same in
    ap (λ l. events_by First (events ++ last ∷ []) ++ l) none ∙ append-nil (events_by First (events ++ last ∷ [])) ∙ firsts ∙ ap (λ l. l ++ last ∷ []) before_it
one_more before new c Second h same =
    let i = under Second c in
    let events = events_after before new in
    let last = answered (new ++ before) i in
    let firsts : events_by First (events ++ last ∷ []) ≡ events_by First events =
    filter-append (λ (e : Event). are_rules First e.item.rules) events (last ∷ []) ∙ append-nil (events_by First events) in
    let seconds : events_by Second (events ++ last ∷ []) ≡ events_by Second events ++ last ∷ [] = filter-append (λ (e : Event). are_rules Second e.item.rules) events (last ∷ []) in
    ap (λ l. l ++ events_by Second (events ++ last ∷ [])) firsts ∙ ap (λ l. events_by First events ++ l) seconds
    ∙ sym (append_assoc (events_by First events) (events_by Second events) (last ∷ [])) ∙ ap (λ l. l ++ last ∷ []) same

pub in_order : (before : History) (new : List Item) → is_legal (new ++ before) ≡ true
    → events_by First (events_after before new) ++ events_by Second (events_after before new) ≡ events_after before new
in_order before [] h = refl
in_order before (i ∷ new) h = one_more before new i.call i.rules h (in_order before new (newest (new ++ before) i h).before)

-- where some are by the first rules, no call of the earlier history is by the second
pub none_or_first : (before : History) (new : List Item) → is_legal (new ++ before) ≡ true → (events_by First (events_after before new) ≡ []) ⊎ (list_all is_first before ≡ true)
none_or_first before [] h = inl refl
none_or_first before (i ∷ new) h =
    let here = newest (new ++ before) i h in
    by i.call i.rules here.follows (none_or_first before new here.before)
  where
    by : (c : Call) (rules : Rules) → elim rules [ First ↦ list_all is_first (new ++ before) | Second ↦ true ] ≡ true
        → (events_by First (events_after before new) ≡ []) ⊎ (list_all is_first before ≡ true)
        → (events_by First (events_after before (under rules c ∷ new)) ≡ []) ⊎ (list_all is_first before ≡ true)
    by c First f more = inr (and_parts (list_all is_first new) (list_all is_first before) (sym (list_all-append is_first new before) ∙ f)).1
    by c Second f (inr g) = inr g
    by c Second f (inl none) =
        inl (filter-append (λ (e : Event). are_rules First e.item.rules) (events_after before new) (answered (new ++ before) (under Second c) ∷ [])
        ∙ append-nil (events_by First (events_after before new)) ∙ none)

-- ---- what holds of each event

pub all_told : (before : History) (new : List Item) → list_all is_told (events_after before new) ≡ true
all_told before [] = refl
all_told before (i ∷ new) = list_all-append is_told (events_after before new) (answered (new ++ before) i ∷ []) ∙ joined (list_all is_told (events_after before new)) true (all_told before new) refl

abbrev pub IsFormed : Event → Type 0
IsFormed e = IsItem e.item

pub all_formed : (before : History) (new : List Item) → All IsItem (new ++ before) → All IsFormed (events_after before new)
all_formed before [] h = All-nil IsFormed
all_formed before (i ∷ new) h =
    All-append IsFormed (events_after before new) (answered (new ++ before) i ∷ []) (all_formed before new (All-tail IsItem i (new ++ before) h))
    (All-cons IsFormed (answered (new ++ before) i) [] (All-head IsItem i (new ++ before) h) (All-nil IsFormed))

-- ---- the same events by the first rules

-- a call by the second rules after which all are by the first was not accepted
not_accepted : (cs : History) (c : Call) (later : History) → list_all is_first later ≡ true → later ≡ next_item cs (under Second c)
    → (is_accepted (ruling cs (under Second c)) ≡ false) × (later ≡ cs)
not_accepted cs c later f is =
    elim (is_accepted (ruling cs (under Second c))) as (λ b. later ≡ (if b then under Second c ∷ cs else cs) → (b ≡ false) × (later ≡ cs)) [
      | true ↦ λ e. no_way (subst (λ h. list_all is_first h ≡ true) e f)
      | false ↦ λ e. (refl, e)
    ] is

-- so an Ok repeated its reply, as by any rules
repeats : (known : Bool) (m : Option Minute) (text : List ℕ) (refused other : Option Refusal) (new old given : Reply) →
    is_accepted (if not known then IsRefused refusals.UnknownCaller else answer_known m text refused new) ≡ false →
    reply_in (if not known then IsRefused refusals.UnknownCaller else answer_known m text refused new) ≡ Some given →
    (reply_in (if not known then IsRefused refusals.UnknownCaller else answer_known m text other old) ≡ Some given)
    × (is_accepted (if not known then IsRefused refusals.UnknownCaller else answer_known m text other old) ≡ false)
repeats false m text refused other new old given a ok = absurd (cc)
repeats true None text None other new old given a ok = absurd (cc)
repeats true None text (Some r) other new old given a ok = absurd (cc)
repeats true (Some m) text refused other new old given a ok = (ok, a)

turns_by_first : (cs : History) (c : Call) (rules : Rules) (fate : Fate) (later : History) → list_all is_first later ≡ true → MayTurn cs (under rules c) fate later → MayTurn cs (under First c) fate later
turns_by_first cs c First fate later f turn = turn
turns_by_first cs c Second (Answered reply) later f turn =
    let i = under Second c in
    let j = under First c in
    let same = not_accepted cs c later f turn.1 in
    let both = repeats (is_known cs c.caller) (earlier cs c) (text_of c.command) (refusal_of cs i) (refusal_of cs j) (reply_to cs i) (reply_to cs j) reply same.0 turn.0 in
    let kept : next_item cs j ≡ cs = rw both.1 refl in
    (both.0, same.1 ∙ sym kept)
turns_by_first cs c Second Refused later f turn = turn
turns_by_first cs c Second Stopped later f (inl same) = inl same
turns_by_first cs c Second Stopped later f (inr next) = inl (not_accepted cs c later f next).1

-- events that leave a history by the first rules leave it by these alone
pub leaves_by_first : (cs : History) (events : List Event) (end : History) → list_all is_first end ≡ true → MayLeave cs events end → MayLeave cs (map event_by_first events) end
leaves_by_first cs [] end f left = left
leaves_by_first cs (e ∷ events) end f left =
    let on = left_goes_on left.0 events end left.2 in
    let all : list_all is_first (on.0 ++ left.0) ≡ true = subst (λ h. list_all is_first h ≡ true) on.1 f in
    let later = (and_parts (list_all is_first on.0) (list_all is_first left.0) (sym (list_all-append is_first on.0 left.0) ∙ all)).1 in
    (left.0, turns_by_first cs e.item.call e.item.rules e.fate left.0 later left.1, leaves_by_first left.0 events end f left.2)
