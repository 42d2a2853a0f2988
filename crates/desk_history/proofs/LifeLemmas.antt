-- Series of lives.
use Rattle.std.proofs.Common.{◌≡◌, ℕ, Bool, true, false, not, ◌&&◌, List, [], ◌∷◌, ◌++◌, Option, Some, None, refl, sym, ◌∙◌, ap, subst, inl, inr}
use Rattle.std.specs.Prelude.{if◌then◌else◌, bytes_eq, find}
use Rattle.std.specs.List.{list_all}
use Rattle.std.proofs.lemmas.Bool.{and_parts}
use Rattle.std.proofs.lemmas.List.Folds.{list_all-append}
use Rattle.desk_types.proofs.FormLemmas.{joined}
use Rattle.base.specs.declared.refusal.Refusal.{Refusal}
use Rattle.base.specs.declared.refusal.Refusal.TheVariants as refusals
use Rattle.desk_types.specs.declared.command.Call.{Call}
use Rattle.desk_types.specs.declared.reply.Reply.{Reply}
use Rattle.desk_types.specs.Callers.{caller_name}
use Rattle.desk_history.specs.Calls.{First, GoesOnFrom, History, Item, Rules, Second, is_first, under}
use Rattle.desk_types.specs.CommandTexts.{text_of}
use Rattle.desk_history.specs.declared.rows.Minute.{Minute}
use Rattle.desk_history.specs.Replies.{minute_of, minutes, reply_to}
use Rattle.desk_history.specs.declared.answer.Answer.TheVariants.{Refused as IsRefused, Repeated}
use Rattle.desk_history.specs.Laws.{AnswersAreKept, AnswersHaveHistories, EndsAreLegal}
use Rattle.desk_history.specs.Lives.{Answered, Event, Fate, Holds, Life, MayLeave, MayTurn, Refused, Stopped, are_by, are_rules, ends_at_a_stop, events_of, is_empty, is_life, is_second_life, is_opened_by_second, are_in_order, Opening, NotOpened, Opened}
use Rattle.desk_history.specs.Refusals.{is_known, refusal_of}
use Rattle.desk_history.specs.Runs.{answer_known, earlier, has_key, is_accepted, is_legal, may_follow, next_item, reply_in, ruling}
use Rattle.desk_history.proofs.ListLemmas.{bytes_eq-refl, same_text}
use Rattle.desk_history.proofs.RunLemmas.{accepted_parts, by_next, goes_on-trans, next_goes_on, next_legal}

-- a fact that holds before an event and is kept by its call holds after the event
pub turned : (P : History → Type 0) (cs : History) (i : Item) (fate : Fate) (later : History) → P cs → P (next_item cs i) → MayTurn cs i fate later → P later
turned P cs i (Answered reply) later same more t = subst P (sym t.1) more
turned P cs i Refused later same more t = subst P (sym t) same
turned P cs i Stopped later same more (inl e) = subst P (sym e) same
turned P cs i Stopped later same more (inr e) = subst P (sym e) more

-- a fact that each call keeps is kept by events
left_kept : (P : History → Type 0) → ((h : History) (i : Item) → P h → P (next_item h i)) → (cs : History) (events : List Event) (end : History) → P cs → MayLeave cs events end → P end
left_kept P each cs [] end h left = subst P (sym left) h
left_kept P each cs (e ∷ events) end h left =
    left_kept P each left.0 events end (turned P cs e.item e.fate left.0 h (each cs e.item h) left.1) left.2

pub left_goes_on : (cs : History) (events : List Event) (end : History) → MayLeave cs events end → GoesOnFrom cs end
left_goes_on cs events end left =
    left_kept (GoesOnFrom cs) (λ h i g. goes_on-trans cs h (next_item h i) g (next_goes_on h i)) cs events end ([], refl) left

no_rules : {A : Type 0} → false ≡ true → A
no_rules e = cc

-- a call by the second rules may follow any
second_follows : (cs : History) (c : Call) (rules : Rules) → are_rules Second rules ≡ true → may_follow cs (under rules c) ≡ true
second_follows cs c Second e = refl
second_follows cs c First e = no_rules e

-- calls by the second rules leave a legal history
pub left_legal : (cs : History) (events : List Event) (end : History) → is_legal cs ≡ true → are_by Second events ≡ true → MayLeave cs events end → is_legal end ≡ true
left_legal cs [] end h by left = subst (λ h. is_legal h ≡ true) (sym left) h
left_legal cs (e ∷ events) end h by left =
    let parts = and_parts (are_rules Second e.item.rules) (are_by Second events) by in
    let follows = second_follows cs e.item.call e.item.rules parts.0 in
    left_legal left.0 events end (turned (λ h. is_legal h ≡ true) cs e.item e.fate left.0 h (next_legal cs e.item follows h) left.1) parts.1 left.2

-- calls by the first rules come before those by the second
abbrev pub stand_in_order : List Event → Bool
stand_in_order [] = true
stand_in_order (e ∷ events) = (if are_rules Second e.item.rules then are_by Second events else true) && stand_in_order events

first_of : (c : Call) (rules : Rules) → are_rules Second rules ≡ false → is_first (under rules c) ≡ true
first_of c First h = refl
first_of c Second h = no_rules (sym h)

may_be_first : (cs : History) (c : Call) (rules : Rules) → list_all is_first cs ≡ true → may_follow cs (under rules c) ≡ true
may_be_first cs c First f = f
may_be_first cs c Second f = refl

-- and then they leave a legal history, where all before was by the first
pub left_in_order : (cs : History) (events : List Event) (end : History) → is_legal cs ≡ true → list_all is_first cs ≡ true → stand_in_order events ≡ true → MayLeave cs events end → is_legal end ≡ true
left_in_order cs [] end h f o left = subst (λ h. is_legal h ≡ true) (sym left) h
left_in_order cs (e ∷ events) end h f o left =
    let parts = and_parts (if are_rules Second e.item.rules then are_by Second events else true) (stand_in_order events) o in
    let legal : is_legal left.0 ≡ true = turned (λ h. is_legal h ≡ true) cs e.item e.fate left.0 h (next_legal cs e.item (may_be_first cs e.item.call e.item.rules f) h) left.1 in
    elim (are_rules Second e.item.rules) as (λ b. are_rules Second e.item.rules ≡ b → (if b then are_by Second events else true) ≡ true → is_legal end ≡ true) [
      | true ↦ λ s by. left_legal left.0 events end legal by left.2
      | false ↦ λ s by.
          (let more : list_all is_first (e.item ∷ cs) ≡ true = joined (is_first e.item) (list_all is_first cs) (first_of e.item.call e.item.rules s) f in
          left_in_order left.0 events end legal
          (turned (λ h. list_all is_first h ≡ true) cs e.item e.fate left.0 f (by_next (λ h. list_all is_first h ≡ true) cs e.item f (λ _. more)) left.1) parts.1 left.2)
    ] refl parts.0

-- ---- lives in order have their events in order

by_second : (lives : List Life) → list_all is_life lives ≡ true → list_all is_second_life lives ≡ true → are_by Second (events_of lives) ≡ true
by_second [] h s = refl
by_second (life ∷ lives) h s =
    let parts = and_parts (is_life life) (list_all is_life lives) h in
    let seconds = and_parts (is_second_life life) (list_all is_second_life lives) s in
    let mine = and_parts (are_by life.rules life.events) (elim life.opening [ Opened ↦ ends_at_a_stop life.events | NotOpened ↦ is_empty life.events ]) parts.0 in
    list_all-append (λ (e : Event). are_rules Second e.item.rules) life.events (events_of lives)
    ∙ joined (are_by Second life.events) (are_by Second (events_of lives)) (ap (λ r. are_by r life.events) (sym (second_is life.rules seconds.0)) ∙ mine.0) (by_second lives parts.1 seconds.1)
  where
    second_is : (rules : Rules) → are_rules Second rules ≡ true → rules ≡ Second
    second_is Second e = refl
    second_is First e = no_rules e

-- events by the first rules in front of events in order
first_front : (front back : List Event) → are_by First front ≡ true → stand_in_order back ≡ true → stand_in_order (front ++ back) ≡ true
first_front [] back h o = o
first_front (e ∷ front) back h o =
    let parts = and_parts (are_rules First e.item.rules) (are_by First front) h in
    joined (if are_rules Second e.item.rules then are_by Second (front ++ back) else true) (stand_in_order (front ++ back)) (unless e.item.rules (are_by Second (front ++ back)) parts.0) (first_front front back parts.1 o)
  where
    unless : (rules : Rules) (b : Bool) → are_rules First rules ≡ true → (if are_rules Second rules then b else true) ≡ true
    unless First b h = refl
    unless Second b h = no_rules h

second_all : (events : List Event) → are_by Second events ≡ true → stand_in_order events ≡ true
second_all [] h = refl
second_all (e ∷ events) h =
    let parts = and_parts (are_rules Second e.item.rules) (are_by Second events) h in
    joined (if are_rules Second e.item.rules then are_by Second events else true) (stand_in_order events) (rw parts.0 parts.1) (second_all events parts.1)

one_life : (rules : Rules) (opening : Opening) (events : List Event) (lives : List Life) → is_life (record { rules = rules; opening = opening; events = events }) ≡ true
    → list_all is_life lives ≡ true → (if is_opened_by_second (record { rules = rules; opening = opening; events = events }) then list_all is_second_life lives else true) ≡ true
    → stand_in_order (events_of lives) ≡ true → stand_in_order (events ++ events_of lives) ≡ true
one_life First opening events lives h all s o =
    first_front events (events_of lives) (and_parts (are_by First events) (elim opening [ Opened ↦ ends_at_a_stop events | NotOpened ↦ is_empty events ]) h).0 o
one_life Second Opened events lives h all s o =
    let mine = (and_parts (are_by Second events) (ends_at_a_stop events) h).0 in
    second_all (events ++ events_of lives)
    (list_all-append (λ (e : Event). are_rules Second e.item.rules) events (events_of lives) ∙ joined (are_by Second events) (are_by Second (events_of lives)) mine (by_second lives all s))
one_life Second NotOpened [] lives h all s o = o
one_life Second NotOpened (e ∷ events) lives h all s o = no_rules (and_parts (are_by Second (e ∷ events)) false h).1

pub lives_in_order : (lives : List Life) → list_all is_life lives ≡ true → are_in_order lives ≡ true → stand_in_order (events_of lives) ≡ true
lives_in_order [] h o = refl
lives_in_order (life ∷ lives) h o =
    let parts = and_parts (is_life life) (list_all is_life lives) h in
    let order = and_parts (if is_opened_by_second life then list_all is_second_life lives else true) (are_in_order lives) o in
    one_life life.rules life.opening life.events lives parts.0 parts.1 order.0 (lives_in_order lives parts.1 order.1)

pub series_are_legal : EndsAreLegal
series_are_legal lives cs ends = left_in_order [] (events_of lives) cs refl refl (lives_in_order lives ends.0 ends.1) ends.2

-- a beginning of events in order is in order
pub front_in_order : (front back : List Event) → stand_in_order (front ++ back) ≡ true → stand_in_order front ≡ true
front_in_order [] back h = refl
front_in_order (e ∷ front) back h =
    let parts = and_parts (if are_rules Second e.item.rules then are_by Second (front ++ back) else true) (stand_in_order (front ++ back)) h in
    joined (if are_rules Second e.item.rules then are_by Second front else true) (stand_in_order front)
    (fewer (are_rules Second e.item.rules) front back parts.0) (front_in_order front back parts.1)
  where
    fewer : (b : Bool) (front back : List Event) → (if b then are_by Second (front ++ back) else true) ≡ true → (if b then are_by Second front else true) ≡ true
    fewer false front back h = refl
    fewer true front back h =
        (and_parts (are_by Second front) (are_by Second back) (sym (list_all-append (λ (e : Event). are_rules Second e.item.rules) front back) ∙ h)).0

-- events in two parts
record Halves (cs : History) (earlier later : List Event) (end : History) : Type 0 where
  middle : History
  first : MayLeave cs earlier middle
  second : MayLeave middle later end

halves : (cs : History) (earlier later : List Event) (end : History) → MayLeave cs (earlier ++ later) end → Halves cs earlier later end
halves cs [] later end left = record { middle = cs; first = refl; second = left }
halves cs (e ∷ earlier) later end left =
    let rest : Halves left.0 earlier later end = halves left.0 earlier later end left.2 in
    record { middle = rest.middle; first = (left.0, left.1, rest.first); second = rest.second }

pub answers_have_histories : AnswersHaveHistories
answers_have_histories lives cs ends i reply earlier later is =
    let two : Halves [] earlier (record { item = i; fate = Answered reply } ∷ later) cs =
    halves [] earlier (record { item = i; fate = Answered reply } ∷ later) cs (subst (λ events. MayLeave [] events cs) is ends.2) in
    (two.second.0, record { earlier = earlier; later = later; is = is; before = two.middle; reached = two.first; answered = two.second.1; left = two.second.2 })

-- a call that is answered Ok is held from then on

no_reply : {reply : Reply} {A : Type 0} → None ≡ Some reply → A
no_reply h = cc

pub record Told (m : Option Minute) (text : List ℕ) (given : Reply) : Type 0 where
  pub found_minute : Minute
  pub is_found : m ≡ Some found_minute
  pub has_text : found_minute.text ≡ text
  pub has_reply : found_minute.reply ≡ given

-- an Ok that isn't an acceptance comes from the minutes
pub told : (known : Bool) (m : Option Minute) (text : List ℕ) (refused : Option Refusal) (new given : Reply) →
    is_accepted (if not known then IsRefused refusals.UnknownCaller else answer_known m text refused new) ≡ false →
    reply_in (if not known then IsRefused refusals.UnknownCaller else answer_known m text refused new) ≡ Some given → Told m text given
told false m text refused new given a h = no_reply h
told true None text None new given a h = cc
told true None text (Some r) new given a h = no_reply h
told true (Some m) text refused new given a h =
    elim (bytes_eq m.text text) as (λ b. bytes_eq m.text text ≡ b → reply_in (if b then Repeated m.reply else IsRefused refusals.KeyReused) ≡ Some given → Told (Some m) text given) [
      | true ↦ λ e k. record { found_minute = m; is_found = refl; has_text = same_text m.text text e; has_reply = cc }
      | false ↦ λ e k. no_reply k
    ] refl h

-- an acceptance gives the new reply
pub accepted_reply : (known : Bool) (m : Option Minute) (text : List ℕ) (refused : Option Refusal) (new given : Reply) →
    is_accepted (if not known then IsRefused refusals.UnknownCaller else answer_known m text refused new) ≡ true →
    reply_in (if not known then IsRefused refusals.UnknownCaller else answer_known m text refused new) ≡ Some given → new ≡ given
accepted_reply false m text refused new given a h = no_reply h
accepted_reply true None text None new given a h = cc
accepted_reply true None text (Some r) new given a h = no_reply h
accepted_reply true (Some m) text refused new given a h =
    elim (bytes_eq m.text text) as (λ b. is_accepted (if b then Repeated m.reply else IsRefused refusals.KeyReused) ≡ true → new ≡ given) [
      | true ↦ λ e. cc
      | false ↦ λ e. cc
    ] a

own_key : (cs : History) (i : Item) → has_key (caller_name i.call.caller) i.call.key (minute_of cs i) ≡ true
own_key cs i = rw (bytes_eq-refl (caller_name i.call.caller), bytes_eq-refl i.call.key) refl

held_at : (cs : History) (i : Item) (given : Reply) → reply_in (ruling cs i) ≡ Some given → Holds (next_item cs i) i.call given
held_at cs i given h =
    let c = i.call in
    elim (is_accepted (ruling cs i)) as (λ b. is_accepted (ruling cs i) ≡ b → Holds (if b then i ∷ cs else cs) i.call given) [
      | true ↦ λ e. record {
        minute = minute_of cs i;
        found = rw (own_key cs i) refl;
        text = refl;
        same = accepted_reply (is_known cs c.caller) (earlier cs c) (text_of c.command) (refusal_of cs i) (reply_to cs i) given e h;
      }
      | false ↦ λ e. (let t : Told (earlier cs c) (text_of c.command) given = told (is_known cs c.caller) (earlier cs c) (text_of c.command) (refusal_of cs i) (reply_to cs i) given e h in
          record { minute = t.found_minute; found = t.is_found; text = t.has_text; same = t.has_reply })
    ] refl

-- a new call doesn't take a key that is in use
other_key : (cs : History) (c : Call) (new : Item) (m : Minute) → earlier cs c ≡ Some m → earlier cs new.call ≡ None → has_key (caller_name c.caller) c.key (minute_of cs new) ≡ false
other_key cs c new m found fresh =
    elim (has_key (caller_name c.caller) c.key (minute_of cs new)) as (λ b. has_key (caller_name c.caller) c.key (minute_of cs new) ≡ b → b ≡ false) [
      | true ↦ λ e. (let both : (bytes_eq (caller_name c.caller) (caller_name new.call.caller) ≡ true) × (bytes_eq c.key new.call.key ≡ true) = and_parts (bytes_eq (caller_name c.caller) (caller_name new.call.caller)) (bytes_eq c.key new.call.key) e in
          clash m (sym found ∙ (ap (λ n. find (has_key n c.key) (minutes cs)) (same_text (caller_name c.caller) (caller_name new.call.caller) both.0)
          ∙ (ap (λ k. find (has_key (caller_name new.call.caller) k) (minutes cs)) (same_text c.key new.call.key both.1) ∙ fresh))))
      | false ↦ λ e. refl
    ] refl
  where
    clash : (m : Minute) {A : Type 0} → Some m ≡ None → A
    clash m e = cc

kept_by_next : (c : Call) (given : Reply) (h : History) (new : Item) → Holds h c given → Holds (next_item h new) c given
kept_by_next c given h new held =
    by_next (λ later. Holds later c given) h new held (λ e.
    (let fresh : earlier h new.call ≡ None = (accepted_parts h new e).fresh in
    let unlike : has_key (caller_name c.caller) c.key (minute_of h new) ≡ false = other_key h c new held.minute held.found fresh in
    record { minute = held.minute; found = rw unlike held.found; text = held.text; same = held.same }))

pub answers_are_kept : AnswersAreKept
answers_are_kept lives cs ends i reply at was =
    let held : Holds at i.call reply = subst (λ h. Holds h i.call reply) (sym was.answered.1) (held_at was.before i reply was.answered.0) in
    (left_kept (λ h. Holds h i.call reply) (kept_by_next i.call reply) at was.later cs held was.left, left_goes_on at was.later cs was.left)
