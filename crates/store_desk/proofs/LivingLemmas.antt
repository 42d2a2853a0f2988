-- Lives with one more call.
use Rattle.std.proofs.Common.{◌≡◌, inl, Bool, true, false, List, [], ◌∷◌, ◌++◌, ◌&&◌, refl, sym, ap, subst, ◌∙◌, IsTrue}
use Rattle.std.specs.Prelude.{if◌then◌else◌}
use Rattle.std.specs.List.{list_all}
use Rattle.std.proofs.lemmas.Bool.{and_parts}
use Rattle.std.proofs.lemmas.Grind.{flat_map-append}
use Rattle.std.proofs.lemmas.List.{append-nil, append_assoc}
use Rattle.std.proofs.lemmas.List.Folds.{list_all-append}
use Rattle.sqlite.specs.Store as store
use Rattle.desk_types.proofs.FormLemmas.{joined}
use Rattle.desk_types.specs.declared.command.Call.{Call}
use Rattle.desk_history.specs.Calls.{History, Item, Second, item}
use Rattle.desk_history.specs.Runs.{next}
use Rattle.desk_history.specs.Lives.{Answered, Ends, Event, Fate, Life, MayLeave, MayTurn, NotOpened, Opened, Refused, Stopped, are_by, are_in_order, are_rules, ends_at_a_stop, events_of, is_life, is_opened_by_second, is_second_life}
use Rattle.store_desk.specs.Living.{BeginsLiving, GoesOnLiving, LivesAgain, MayEndLiving, MayStopLiving, and_now, and_refused, and_then, is_told}
use Rattle.store_desk.specs.declared.desk.Desk.{Desk}

-- the events of the lives are those before, and then those of the last
events_now : (before : List Life) (events : List Event) → events_of (and_now before events) ≡ events_of before ++ events
events_now before events = flat_map-append (λ (l : Life). l.events) before (record { rules = Second; opening = Opened; events = events } ∷ []) ∙ ap (λ es. events_of before ++ es) (append-nil events)

events_then : (before : List Life) (events : List Event) (e : Event) → events_of (and_now before (events ++ e ∷ [])) ≡ events_of (and_now before events) ++ e ∷ []
events_then before events e =
    events_now before (events ++ e ∷ []) ∙ sym (append_assoc (events_of before) events (e ∷ [])) ∙ ap (λ es. es ++ e ∷ []) (sym (events_now before events))

-- the history after events and one more
leave_then : (cs : History) (events : List Event) (e : Event) (middle end : History) → MayLeave cs events middle → MayTurn middle e.item e.fate end → MayLeave cs (events ++ e ∷ []) end
leave_then cs [] e middle end left turn = (end, subst (λ h. MayTurn h e.item e.fate end) left turn, refl)
leave_then cs (x ∷ events) e middle end left turn = (left.0, left.1, leave_then left.0 events e middle end left.2 turn)

-- an event that wasn't stopped, before others
before_others : (d : Item) (own : Fate) (events : List Event) (c : Call) (fate : Fate) → list_all is_told (record { item = d; fate = own } ∷ events) ≡ true
    → (list_all is_told events ≡ true → ends_at_a_stop (and_then events c fate) ≡ true) → ends_at_a_stop (record { item = d; fate = own } ∷ and_then events c fate) ≡ true
before_others d (Answered reply) events c fate told more = more told
before_others d Refused events c fate told more = more told
before_others d Stopped events c fate told more = cc

-- where no call was stopped, the next one may be
one_more : (events : List Event) (c : Call) (fate : Fate) → list_all is_told events ≡ true → ends_at_a_stop (and_then events c fate) ≡ true
one_more [] c (Answered reply) told = refl
one_more [] c Refused told = refl
one_more [] c Stopped told = refl
one_more (e ∷ events) c fate told = before_others e.item e.fate events c fate told (one_more events c fate)

still_told : (events : List Event) (e : Event) → list_all is_told events ≡ true → is_told e ≡ true → list_all is_told (events ++ e ∷ []) ≡ true
still_told events e told last = list_all-append is_told events (e ∷ []) ∙ (rw (told, last) refl)

still_by : (events : List Event) (c : Call) (fate : Fate) → are_by Second events ≡ true → are_by Second (and_then events c fate) ≡ true
still_by events c fate by = list_all-append (λ (e : Event). are_rules Second e.item.rules) events (record { item = item c; fate = fate } ∷ []) ∙ (rw by refl)

-- ---- lives in order

-- a beginning of lives in order is in order
order_front : (front back : List Life) → are_in_order (front ++ back) ≡ true → are_in_order front ≡ true
order_front [] back h = refl
order_front (life ∷ front) back h =
    let parts = and_parts (if is_opened_by_second life then list_all is_second_life (front ++ back) else true) (are_in_order (front ++ back)) h in
    joined (if is_opened_by_second life then list_all is_second_life front else true) (are_in_order front)
    (fewer (is_opened_by_second life) parts.0) (order_front front back parts.1)
  where
    fewer : (b : Bool) → (if b then list_all is_second_life (front ++ back) else true) ≡ true → (if b then list_all is_second_life front else true) ≡ true
    fewer false h = refl
    fewer true h = (and_parts (list_all is_second_life front) (list_all is_second_life back) (sym (list_all-append is_second_life front back) ∙ h)).0

-- a life by the second rules may follow any
order_next : (before : List Life) (last : Life) → is_second_life last ≡ true → are_in_order before ≡ true → are_in_order (before ++ last ∷ []) ≡ true
order_next [] last second h = alone (is_opened_by_second last)
  where
    alone : (b : Bool) → ((if b then true else true) && true) ≡ true
    alone false = refl
    alone true = refl
order_next (life ∷ before) last second h =
    let parts = and_parts (if is_opened_by_second life then list_all is_second_life before else true) (are_in_order before) h in
    joined (if is_opened_by_second life then list_all is_second_life (before ++ last ∷ []) else true) (are_in_order (before ++ last ∷ []))
    (more (is_opened_by_second life) parts.0) (order_next before last second parts.1)
  where
    more : (b : Bool) → (if b then list_all is_second_life before else true) ≡ true → (if b then list_all is_second_life (before ++ last ∷ []) else true) ≡ true
    more false h = refl
    more true h = list_all-append is_second_life before (last ∷ []) ∙ (rw (h, second) refl)

all_three : (a b c : Bool) → a ≡ true → b ≡ true → c ≡ true → (a && ((b && c) && true)) ≡ true
all_three a b c h j k = rw (h, j, k) refl

-- a history that the lives may leave, after one more call
pub ends_then : (before : List Life) (events : List Event) (c : Call) (fate : Fate) (cs later : History) → IsTrue (list_all is_told events)
    → Ends (and_now before events) cs → MayTurn cs (item c) fate later → Ends (and_now before (and_then events c fate)) later
ends_then before events c fate cs later told ends turn =
    let e : Event = record { item = item c; fate = fate } in
    let was : Life = record { rules = Second; opening = Opened; events = events } in
    let is : Life = record { rules = Second; opening = Opened; events = and_then events c fate } in
    let parts = and_parts (list_all is_life before) (list_all is_life (was ∷ [])) (sym (list_all-append is_life before (was ∷ [])) ∙ ends.0) in
    let own = and_parts (is_life was) true parts.1 in
    let by = and_parts (are_by Second events) (ends_at_a_stop events) own.0 in (
      list_all-append is_life before (is ∷ [])
          ∙ all_three (list_all is_life before) (are_by Second (and_then events c fate)) (ends_at_a_stop (and_then events c fate)) parts.0 (still_by events c fate by.0) (one_more events c fate told),
      order_next before is refl (order_front before (was ∷ []) ends.1),
      subst (λ es. MayLeave [] es later) (sym (events_then before events e)) (leave_then [] (events_of (and_now before events)) e cs later ends.2 turn),
    )

-- ---- more events

-- the history after events and more
leave_more : (cs : History) (events more : List Event) (middle end : History) → MayLeave cs events middle → MayLeave middle more end → MayLeave cs (events ++ more) end
leave_more cs [] more middle end left after = subst (λ h. MayLeave h more end) left after
leave_more cs (x ∷ events) more middle end left after = (left.0, left.1, leave_more left.0 events more middle end left.2 after)

-- the seen history may have left this one before, and by more events another
pub since_more : (at : History) (since more : List Event) (cs later : History) → MayLeave at since cs → MayLeave cs more later → MayLeave at (since ++ more) later
since_more at since more cs later left after = leave_more at since more cs later left after

events_more : (before : List Life) (events more : List Event) → events_of (and_now before (events ++ more)) ≡ events_of (and_now before events) ++ more
events_more before events more =
    events_now before (events ++ more) ∙ sym (append_assoc (events_of before) events more) ∙ ap (λ es. es ++ more) (sym (events_now before events))

-- where no call was stopped, one of the next may be
stop_in_more : (events more : List Event) → list_all is_told events ≡ true → ends_at_a_stop more ≡ true → ends_at_a_stop (events ++ more) ≡ true
stop_in_more [] more told ends = ends
stop_in_more (e ∷ events) more told ends = by e.item e.fate (λ h. stop_in_more events more h ends) told
  where
    by : (i : Item) (fate : Fate) → (list_all is_told events ≡ true → ends_at_a_stop (events ++ more) ≡ true)
        → list_all is_told (record { item = i; fate = fate } ∷ events) ≡ true → ends_at_a_stop (record { item = i; fate = fate } ∷ (events ++ more)) ≡ true
    by i (Answered reply) after h = after h
    by i Refused after h = after h
    by i Stopped after h = cc

-- a history that the lives may leave, after more events of the last
pub ends_more : (before : List Life) (events more : List Event) (cs later : History) → IsTrue (list_all is_told events) → are_by Second more ≡ true
    → ends_at_a_stop more ≡ true → Ends (and_now before events) cs → MayLeave cs more later → Ends (and_now before (events ++ more)) later
ends_more before events more cs later told by_second stops ends left =
    let was : Life = record { rules = Second; opening = Opened; events = events } in
    let is : Life = record { rules = Second; opening = Opened; events = events ++ more } in
    let parts = and_parts (list_all is_life before) (list_all is_life (was ∷ [])) (sym (list_all-append is_life before (was ∷ [])) ∙ ends.0) in
    let own = and_parts (is_life was) true parts.1 in
    let by = and_parts (are_by Second events) (ends_at_a_stop events) own.0 in (
      list_all-append is_life before (is ∷ [])
          ∙ all_three (list_all is_life before) (are_by Second (events ++ more)) (ends_at_a_stop (events ++ more)) parts.0
          (list_all-append (λ (e : Event). are_rules Second e.item.rules) events more ∙ (rw (by.0, by_second) refl)) (stop_in_more events more told stops),
      order_next before is refl (order_front before (was ∷ []) ends.1),
      subst (λ es. MayLeave [] es later) (sym (events_more before events more)) (leave_more [] (events_of (and_now before events)) more cs later ends.2 left),
    )

-- one more life by the second rules, without calls, leaves the history unchanged
ends_after : (lives : List Life) (last : Life) (cs : History) → is_life last ≡ true → is_second_life last ≡ true → last.events ≡ [] → Ends lives cs → Ends (lives ++ last ∷ []) cs
ends_after lives last cs life second none ends = (
  list_all-append is_life lives (last ∷ []) ∙ (rw (ends.0, life) refl),
  order_next lives last second ends.1,
  subst (λ es. MayLeave [] es cs)
      (sym (flat_map-append (λ (l : Life). l.events) lives (last ∷ []) ∙ (rw none (append-nil (events_of lives))))) ends.2,
)

-- a history that the lives may leave, where one more begins
ends_next : (lives : List Life) (cs : History) → Ends lives cs → Ends (and_now lives []) cs
ends_next lives cs ends = ends_after lives (record { rules = Second; opening = Opened; events = [] }) cs refl refl refl ends

-- a life that isn't opened leaves the history unchanged
pub ends_refused : (lives : List Life) (cs : History) → Ends lives cs → Ends (and_refused lives) cs
ends_refused lives cs ends = ends_after lives (record { rules = Second; opening = NotOpened; events = [] }) cs refl refl refl ends

module _ {S : Type 0} (g : store.Ghosts S) (desk : Desk S) where
  pub begins_living : BeginsLiving g desk
  begins_living owner shows = record { told = refl; ends = (refl, refl, refl); shows = shows }

  pub lives_again : LivesAgain g desk
  lives_again owner lives seen cs keeps = record { told = refl; ends = ends_next lives cs keeps.ends; shows = keeps.shows }

  pub may_stop_living : MayStopLiving g desk
  may_stop_living owner before events seen cs was since = ∣ (λ clean db may. (cs, was.ends, since, inl (was.shows.left clean db may))) ∣₁

module _ {S : Type 0} (g : store.Ghosts S) (old new : Desk S) where
  pub goes_on_living : GoesOnLiving g old new
  goes_on_living owner before events cs c was = (
    λ reply told. (let did = told owner cs was.shows in
        record {
          told = still_told events _ was.told refl;
          ends = ends_then before events c (Answered reply) cs (next cs c) was.told was.ends (did.0, refl);
          shows = did.1;
        }),
    λ refusal other told. (let did = told other owner cs was.shows in
        record {
          told = still_told events _ was.told refl;
          ends = ends_then before events c Refused cs cs was.told was.ends refl;
          shows = did.1;
        }),
  )

  pub may_end_living : MayEndLiving g old new
  may_end_living owner before events seen cs c was since stops =
      ∣ (λ clean db may. let left = stops owner cs was.shows clean db may in
      (left.0, ends_then before events c Stopped cs left.0 was.told was.ends left.1, leave_then seen.at seen.since (record { item = item c; fate = Stopped }) cs left.0 since left.1, inl left.2)) ∣₁
