-- Series of lives with runs over minutes.
use Rattle.std.proofs.Common.{◌≡◌, ◌⊎◌, inl, inr, All, Bool, true, false, ◌&&◌, cond, filter, List, [], ◌∷◌, ◌++◌, refl, sym, ap, subst, ◌∙◌, append-nil}
use Rattle.std.specs.Prelude.{if◌then◌else◌, map}
use Rattle.std.specs.List.{list_all}
use Rattle.std.proofs.lemmas.Bool.{and_parts}
use Rattle.std.proofs.lemmas.Grind.{flat_map-append}
use Rattle.std.proofs.lemmas.List.{map-append}
use Rattle.std.proofs.lemmas.List.Elements.{All-append, All-filter, All-map}
use Rattle.std.proofs.lemmas.List.Folds.{list_all-append}
use Rattle.desk_types.proofs.FormLemmas.{joined}
use Rattle.desk_history.specs.Calls.{First, History, Item, Rules, Second, is_first}
use Rattle.desk_history.specs.Formed.{IsItem}
use Rattle.desk_history.specs.Lives.{Answered, Ends, Event, Fate, Life, MayLeave, NotOpened, Opened, Opening, Refused, Stopped, are_by, are_in_order, are_rules, ends_at_a_stop, events_of, is_life, is_opened_by_second, is_refused, is_second_life}
use Rattle.desk_history.specs.Runs.{is_legal}
use Rattle.store_desk.specs.Living.{and_now, is_told}
use Rattle.store_follow.specs.Series.{and_run, event_by_first, events_after, events_by, life_by_first, life_with, lives_before}
use Rattle.store_follow.proofs.EventLemmas.{IsFormed, all_formed, all_told, in_order, leave_on, leaves_by_first, no_way, none_or_first, reaches}

-- ---- tests of lists

still_all : {X : Type 0} (p q : X → Bool) (xs : List X) → list_all p xs ≡ true → list_all p (filter q xs) ≡ true
still_all p q [] h = refl
still_all p q (x ∷ xs) h =
    let parts = and_parts (p x) (list_all p xs) h in
    elim (q x) as (λ b. list_all p (cond b (x ∷ filter q xs) (filter q xs)) ≡ true) [
      | true ↦ joined (p x) (list_all p (filter q xs)) parts.0 (still_all p q xs parts.1)
      | false ↦ still_all p q xs parts.1
    ]

all_pass : {X : Type 0} (q : X → Bool) (xs : List X) → list_all q (filter q xs) ≡ true
all_pass q [] = refl
all_pass q (x ∷ xs) =
    elim (q x) as (λ b. q x ≡ b → list_all q (cond b (x ∷ filter q xs) (filter q xs)) ≡ true) [
      | true ↦ λ e. joined (q x) (list_all q (filter q xs)) e (all_pass q xs)
      | false ↦ λ e. all_pass q xs
    ] refl

-- ---- the lives of a run

no_stops : (events : List Event) → list_all is_told events ≡ true → ends_at_a_stop events ≡ true
no_stops [] told = refl
no_stops (e ∷ events) told = by e.item e.fate told (no_stops events)
  where
    by : (i : Item) (fate : Fate) → list_all is_told (record { item = i; fate = fate } ∷ events) ≡ true → (list_all is_told events ≡ true → ends_at_a_stop events ≡ true)
        → ends_at_a_stop (record { item = i; fate = fate } ∷ events) ≡ true
    by i (Answered reply) told more = more told
    by i Refused told more = more told
    by i Stopped told more = no_way told

is_one : (rules : Rules) (events : List Event) → are_by rules events ≡ true → list_all is_told events ≡ true → list_all is_life (life_with rules events) ≡ true
is_one rules [] by told = refl
is_one rules (e ∷ events) by told =
    joined (is_life (record { rules = rules; opening = Opened; events = e ∷ events })) true
    (joined (are_by rules (e ∷ events)) (ends_at_a_stop (e ∷ events)) by (no_stops (e ∷ events) told)) refl

its_events : (rules : Rules) (events : List Event) → events_of (life_with rules events) ≡ events
its_events rules [] = refl
its_events rules (e ∷ events) = append-nil (e ∷ events)

second_one : (events : List Event) → list_all is_second_life (life_with Second events) ≡ true
second_one [] = refl
second_one (e ∷ events) = refl

order_of_one : (events : List Event) → are_in_order (life_with Second events) ≡ true
order_of_one [] = refl
order_of_one (e ∷ events) = refl

-- ---- the lives before it

all_by_first : (events : List Event) → are_by First (map event_by_first events) ≡ true
all_by_first [] = refl
all_by_first (e ∷ events) = all_by_first events

refused_by_first : (events : List Event) → list_all is_refused (map event_by_first events) ≡ list_all is_refused events
refused_by_first [] = refl
refused_by_first (e ∷ events) = ap (λ b. is_refused e && b) (refused_by_first events)

stops_by_first : (events : List Event) → ends_at_a_stop (map event_by_first events) ≡ ends_at_a_stop events
stops_by_first [] = refl
stops_by_first (e ∷ events) = by e.item e.fate events (stops_by_first events)
  where
    by : (i : Item) (fate : Fate) (events : List Event) → ends_at_a_stop (map event_by_first events) ≡ ends_at_a_stop events
        → ends_at_a_stop (map event_by_first (record { item = i; fate = fate } ∷ events)) ≡ ends_at_a_stop (record { item = i; fate = fate } ∷ events)
    by i (Answered reply) events same = same
    by i Refused events same = same
    by i Stopped events same = refused_by_first events

one_by_first : (rules : Rules) (opening : Opening) (events : List Event) → is_life (record { rules = rules; opening = opening; events = events }) ≡ true
    → is_life (life_by_first (record { rules = rules; opening = opening; events = events })) ≡ true
one_by_first rules Opened events h =
    let parts = and_parts (are_by rules events) (ends_at_a_stop events) h in
    joined (are_by First (map event_by_first events)) (ends_at_a_stop (map event_by_first events)) (all_by_first events) (stops_by_first events ∙ parts.1)
one_by_first rules NotOpened [] h = refl
one_by_first rules NotOpened (e ∷ events) h = no_way (and_parts (are_by rules (e ∷ events)) false h).1

lives_by_first : (lives : List Life) → list_all is_life lives ≡ true → list_all is_life (map life_by_first lives) ≡ true
lives_by_first [] h = refl
lives_by_first (life ∷ lives) h =
    let parts = and_parts (is_life life) (list_all is_life lives) h in
    joined (is_life (life_by_first life)) (list_all is_life (map life_by_first lives)) (one_by_first life.rules life.opening life.events parts.0) (lives_by_first lives parts.1)

events_by_first : (lives : List Life) → events_of (map life_by_first lives) ≡ map event_by_first (events_of lives)
events_by_first [] = refl
events_by_first (life ∷ lives) =
    ap (λ l. map event_by_first life.events ++ l) (events_by_first lives) ∙ sym (map-append event_by_first life.events (events_of lives))

-- ---- their order

-- lives by the second rules may follow any
order_more : (front back : List Life) → are_in_order front ≡ true → list_all is_second_life back ≡ true → are_in_order back ≡ true → are_in_order (front ++ back) ≡ true
order_more [] back h second o = o
order_more (life ∷ front) back h second o =
    let parts = and_parts (if is_opened_by_second life then list_all is_second_life front else true) (are_in_order front) h in
    joined (if is_opened_by_second life then list_all is_second_life (front ++ back) else true) (are_in_order (front ++ back))
    (more (is_opened_by_second life) parts.0) (order_more front back parts.1 second o)
  where
    more : (b : Bool) → (if b then list_all is_second_life front else true) ≡ true → (if b then list_all is_second_life (front ++ back) else true) ≡ true
    more false h = refl
    more true h = list_all-append is_second_life front back ∙ joined (list_all is_second_life front) (list_all is_second_life back) h second

-- any may follow those by the first
order_after_first : (before back : List Life) → are_in_order back ≡ true → are_in_order (map life_by_first before ++ back) ≡ true
order_after_first [] back o = o
order_after_first (life ∷ before) back o =
    joined (if is_opened_by_second (life_by_first life) then list_all is_second_life (map life_by_first before ++ back) else true) (are_in_order (map life_by_first before ++ back))
    (none life.opening (list_all is_second_life (map life_by_first before ++ back))) (order_after_first before back o)
  where
    none : (opening : Opening) (b : Bool) → (if (elim opening [ Opened ↦ false | NotOpened ↦ false ]) then b else true) ≡ true
    none Opened b = refl
    none NotOpened b = refl

-- ---- a series with a run

some_is_none : (e : Event) (events : List Event) {A : Type 0} → e ∷ events ≡ [] → A
some_is_none e events h = absurd (cc)

with_run : (before : List Life) (at end : History) (firsts seconds : List Event) → Ends before at → (firsts ≡ []) ⊎ (list_all is_first at ≡ true)
    → are_by First firsts ≡ true → are_by Second seconds ≡ true → list_all is_told firsts ≡ true → list_all is_told seconds ≡ true → MayLeave at (firsts ++ seconds) end
    → Ends (lives_before before firsts ++ (life_with First firsts ++ life_with Second seconds)) end
with_run before at end [] seconds ends first by_first by_second told all left = (
  list_all-append is_life before (life_with Second seconds)
      ∙ joined (list_all is_life before) (list_all is_life (life_with Second seconds)) ends.0 (is_one Second seconds by_second all),
  order_more before (life_with Second seconds) ends.1 (second_one seconds) (order_of_one seconds),
  subst (λ es. MayLeave [] es end)
      (sym (flat_map-append (λ (l : Life). l.events) before (life_with Second seconds) ∙ ap (λ es. events_of before ++ es) (its_events Second seconds)))
      (leave_on [] (events_of before) seconds at end ends.2 left),
)
with_run before at end (e ∷ firsts) seconds ends (inl none) by_first by_second told all left = some_is_none e firsts none
with_run before at end (e ∷ firsts) seconds ends (inr first) by_first by_second told all left =
    let front = map life_by_first before in
    let one = life_with First (e ∷ firsts) in
    let other = life_with Second seconds in
    let events : events_of (front ++ (one ++ other)) ≡ map event_by_first (events_of before) ++ ((e ∷ firsts) ++ seconds) =
    flat_map-append (λ (l : Life). l.events) front (one ++ other) ∙ ap (λ es. es ++ events_of (one ++ other)) (events_by_first before)
    ∙ ap (λ es. map event_by_first (events_of before) ++ es) (flat_map-append (λ (l : Life). l.events) one other ∙ ap (λ es. es ++ events_of other) (its_events First (e ∷ firsts))
    ∙ ap (λ es. (e ∷ firsts) ++ es) (its_events Second seconds)) in (
      list_all-append is_life front (one ++ other)
          ∙ joined (list_all is_life front) (list_all is_life (one ++ other)) (lives_by_first before ends.0)
          (list_all-append is_life one other ∙ joined (list_all is_life one) (list_all is_life other) (is_one First (e ∷ firsts) by_first told) (is_one Second seconds by_second all)),
      order_after_first before (one ++ other) (order_of_one seconds),
      subst (λ es. MayLeave [] es end) (sym events)
          (leave_on [] (map event_by_first (events_of before)) ((e ∷ firsts) ++ seconds) at end (leaves_by_first [] (events_of before) at first ends.2) left),
    )

pub ends_with_run : (before : List Life) (at : History) (new : List Item) → Ends before at → is_legal (new ++ at) ≡ true → Ends (and_run before (events_after at new)) (new ++ at)
ends_with_run before at new ends legal =
    let events = events_after at new in
    with_run before at (new ++ at) (events_by First events) (events_by Second events) ends (none_or_first at new legal)
    (all_pass (λ (e : Event). are_rules First e.item.rules) events) (all_pass (λ (e : Event). are_rules Second e.item.rules) events)
    (still_all is_told (λ (e : Event). are_rules First e.item.rules) events (all_told at new)) (still_all is_told (λ (e : Event). are_rules Second e.item.rules) events (all_told at new))
    (subst (λ es. MayLeave at es (new ++ at)) (sym (in_order at new legal)) (reaches at new legal))

-- the desk that was opened after these lives has had no call yet
pub ends_now : (lives : List Life) (cs : History) → Ends lives cs → Ends (and_now lives []) cs
ends_now lives cs ends =
    let now : Life = record { rules = Second; opening = Opened; events = [] } in (
      list_all-append is_life lives (now ∷ []) ∙ joined (list_all is_life lives) true ends.0 refl,
      order_more lives (now ∷ []) ends.1 refl refl,
      subst (λ es. MayLeave [] es cs) (sym (flat_map-append (λ (l : Life). l.events) lives (now ∷ []) ∙ append-nil (events_of lives))) ends.2,
    )

-- ---- their calls are in their forms

formed_before : (before : List Life) (firsts : List Event) → All IsFormed (events_of before) → All IsFormed (events_of (lives_before before firsts))
formed_before before [] h = h
formed_before before (e ∷ firsts) h = subst (All IsFormed) (sym (events_by_first before)) (All-map IsFormed event_by_first (events_of before) h)

formed_one : (rules : Rules) (events : List Event) → All IsFormed events → All IsFormed (events_of (life_with rules events))
formed_one rules events h = subst (All IsFormed) (sym (its_events rules events)) h

pub formed_with_run : (before : List Life) (at : History) (new : List Item) → All IsFormed (events_of before) → All IsItem (new ++ at) → All IsFormed (events_of (and_run before (events_after at new)))
formed_with_run before at new formed items =
    let events = events_after at new in
    let firsts = events_by First events in
    let seconds = events_by Second events in
    let all = all_formed at new items in
    let front = lives_before before firsts in
    let one = life_with First firsts in
    let other = life_with Second seconds in
    subst (All IsFormed) (sym (flat_map-append (λ (l : Life). l.events) front (one ++ other) ∙ ap (λ es. events_of front ++ es) (flat_map-append (λ (l : Life). l.events) one other)))
    (All-append IsFormed (events_of front) (events_of one ++ events_of other) (formed_before before firsts formed)
    (All-append IsFormed (events_of one) (events_of other) (formed_one First firsts (All-filter (λ (e : Event). are_rules First e.item.rules) IsFormed events all))
    (formed_one Second seconds (All-filter (λ (e : Event). are_rules Second e.item.rules) IsFormed events all))))
