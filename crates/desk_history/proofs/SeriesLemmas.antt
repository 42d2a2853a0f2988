-- Series of lives in which each call was in its forms.
use Rattle.std.proofs.Common.{◌≡◌, ℕ, Bool, true, false, not, All, List, [], ◌∷◌, ◌++◌, Some, None, refl, sym, ◌∙◌, ap, subst, append_assoc}
use Rattle.std.specs.Prelude.{if◌then◌else◌, bytes_eq}
use Rattle.std.specs.List.{list_all}
use Rattle.std.proofs.lemmas.Bool.{and_parts}
use Rattle.std.proofs.lemmas.List.Elements.{All-cons, All-head, All-nil, All-tail}
use Rattle.std.proofs.lemmas.List.Folds.{list_all-append}
use Rattle.base.specs.declared.refusal.Refusal.TheVariants as refusals
use Rattle.desk_types.specs.declared.caller.Caller.{Caller}
use Rattle.desk_types.specs.declared.command.Call.{Call}
use Rattle.desk_types.specs.declared.command.Command.{Command}
use Rattle.desk_types.specs.declared.reply.Reply.{Reply}
use Rattle.desk_types.specs.Callers.{caller_name, is_told_by_name}
use Rattle.desk_types.specs.CommandTexts.{text_of}
use Rattle.desk_types.proofs.ReadingLemmas.{text_of-same}
use Rattle.desk_history.specs.Calls.{GoesOnFrom, History, Item, has_same_key, under}
use Rattle.desk_history.specs.Formed.{IsHistory, IsItem}
use Rattle.desk_history.specs.FormLaws.{AnsweredCallsStand, EndsAreHistories, Stands}
use Rattle.desk_history.specs.Lives.{Answered, Event, MayLeave, events_of}
use Rattle.desk_history.specs.Refusals.{is_known, refusal_of}
use Rattle.desk_history.specs.Replies.{minute_of, reply_to}
use Rattle.desk_history.specs.Runs.{answer_known, earlier, is_accepted, next_item, reply_in, ruling}
use Rattle.desk_history.specs.declared.answer.Answer.{Answer}
use Rattle.desk_history.specs.declared.answer.Answer.TheVariants.{Refused as IsRefused}
use Rattle.desk_history.specs.declared.rows.Minute.{Minute}
use Rattle.desk_history.proofs.CallerLemmas.{callers_are_told, known_told, same_caller}
use Rattle.desk_history.proofs.LifeLemmas.{accepted_reply, front_in_order, left_goes_on, left_in_order, lives_in_order, series_are_legal, stand_in_order, told, turned}
use Rattle.desk_history.proofs.ListLemmas.{same_text}
use Rattle.desk_history.proofs.RunLemmas.{by_next}

abbrev IsFormed : Event → Type 0
IsFormed e = IsItem e.item

left_formed : (cs : History) (events : List Event) (end : History) → All IsItem cs → All IsFormed events → MayLeave cs events end → All IsItem end
left_formed cs [] end h all left = subst (All IsItem) (sym left) h
left_formed cs (e ∷ events) end h all left =
    let more : All IsItem (e.item ∷ cs) = All-cons IsItem e.item cs (All-head IsFormed e events all) h in
    let after : All IsItem left.0 = turned (All IsItem) cs e.item e.fate left.0 h (by_next (All IsItem) cs e.item h (λ _. more)) left.1 in
    left_formed left.0 events end after (All-tail IsFormed e events all) left.2

pub ends_are_histories : EndsAreHistories
ends_are_histories lives cs ends formed = record {
  legal = series_are_legal lives cs ends;
  formed = left_formed [] (events_of lives) cs (All-nil IsItem) formed ends.2;
}

-- ---- parts of a list

all_front : {X : Type 0} (P : X → Type 0) (xs ys : List X) → All P (xs ++ ys) → All P xs
all_front P [] ys h = All-nil P
all_front P (x ∷ xs) ys h = All-cons P x xs (All-head P x (xs ++ ys) h) (all_front P xs ys (All-tail P x (xs ++ ys) h))

all_back : {X : Type 0} (P : X → Type 0) (xs ys : List X) → All P (xs ++ ys) → All P ys
all_back P [] ys h = h
all_back P (x ∷ xs) ys h = all_back P xs ys (All-tail P x (xs ++ ys) h)

test_back : {X : Type 0} (p : X → Bool) (xs ys : List X) → list_all p (xs ++ ys) ≡ true → list_all p ys ≡ true
test_back p xs ys h = (and_parts (list_all p xs) (list_all p ys) (sym (list_all-append p xs ys) ∙ h)).1

-- ---- the call of a minute

-- the item whose minute has the key
record Called (cs : History) (c : Call) (m : Minute) : Type 0 where
  after : History
  old : Item
  before : History
  is : cs ≡ after ++ old ∷ before
  minute_is : m ≡ minute_of before old
  same_key : has_same_key c old.call ≡ true

no_some : (m : Minute) {A : Type 0} → None ≡ Some m → A
no_some m e = cc

some_is : (a b : Minute) → Some a ≡ Some b → b ≡ a
some_is a b e = cc

called : (cs : History) (c : Call) (m : Minute) → earlier cs c ≡ Some m → Called cs c m
called [] c m h = no_some m h
called (i ∷ cs) c m h =
    elim (has_same_key c i.call) as (λ b. has_same_key c i.call ≡ b → (if b then Some (minute_of cs i) else earlier cs c) ≡ Some m → Called (i ∷ cs) c m) [
      | true ↦ λ same e. record { after = []; old = i; before = cs; is = refl; minute_is = some_is (minute_of cs i) m e; same_key = same }
      | false ↦ λ _ e. (let below = called cs c m e in
          record { after = i ∷ below.after; old = below.old; before = below.before; is = ap (λ l. i ∷ l) below.is; minute_is = below.minute_is; same_key = below.same_key })
    ] refl h

no_reply : {given : Reply} {A : Type 0} → None ≡ Some given → A
no_reply e = cc

known_by : (known : Bool) (told : Answer) (given : Reply) → reply_in (if not known then IsRefused refusals.UnknownCaller else told) ≡ Some given → known ≡ true
known_by true told given h = refl
known_by false told given h = no_reply h

abbrev call : Caller → List ℕ → Command → Call
call caller key command = record { caller = caller; key = key; command = command }

call_same : (a b : Caller) (c d : List ℕ) (e f : Command) → a ≡ b → c ≡ d → e ≡ f → call a c e ≡ call b d f
call_same a b c d e f h k l = cc

same_call : (a b : Call) → a.caller ≡ b.caller → a.key ≡ b.key → a.command ≡ b.command → a ≡ b
same_call a b h k l = call_same a.caller b.caller a.key b.key a.command b.command h k l

-- a call that is answered Ok is in the history after it
stands_at : (cs : History) (i : Item) (given : Reply) → IsHistory cs → IsItem i → reply_in (ruling cs i) ≡ Some given → Stands (next_item cs i) i.call given
stands_at cs i given h formed ok =
    let c = i.call in
    elim (is_accepted (ruling cs i)) as (λ b. is_accepted (ruling cs i) ≡ b → Stands (if b then i ∷ cs else cs) i.call given) [
      | true ↦ λ e. record {
        rules = i.rules;
        later = [];
        before = cs;
        is = refl;
        same = accepted_reply (is_known cs c.caller) (earlier cs c) (text_of c.command) (refusal_of cs i) (reply_to cs i) given e ok;
      }
      | false ↦ λ e. (let t = told (is_known cs c.caller) (earlier cs c) (text_of c.command) (refusal_of cs i) (reply_to cs i) given e ok in
          let found = called cs c t.found_minute t.is_found in
          let old = found.old.call in
          let keys = and_parts (bytes_eq (caller_name c.caller) (caller_name old.caller)) (bytes_eq c.key old.key) found.same_key in
          let known = known_by (is_known cs c.caller) (answer_known (earlier cs c) (text_of c.command) (refusal_of cs i) (reply_to cs i)) given ok in
          let mine = known_told cs c.caller h.legal known in
          let all = test_back (λ a. is_told_by_name a.call.caller) found.after (found.old ∷ found.before) (ap (list_all (λ a. is_told_by_name a.call.caller)) (sym found.is) ∙ callers_are_told cs h.legal) in
          let theirs = (and_parts (is_told_by_name old.caller) (list_all (λ a. is_told_by_name a.call.caller) found.before) all).0 in
          let forms = All-head IsItem found.old found.before (all_back IsItem found.after (found.old ∷ found.before) (subst (All IsItem) found.is h.formed)) in
          let text : text_of c.command ≡ text_of old.command = sym t.has_text ∙ ap (λ m. m.text) found.minute_is in
          let same : old ≡ c =
          same_call old c (sym (same_caller c.caller old.caller mine theirs (same_text (caller_name c.caller) (caller_name old.caller) keys.0)))
          (sym (same_text c.key old.key keys.1)) (sym (text_of-same c.command old.command formed.forms forms.forms text)) in
          record {
            rules = found.old.rules;
            later = found.after;
            before = found.before;
            is = found.is ∙ ap (λ a. found.after ++ under found.old.rules a ∷ found.before) same;
            same = ap (λ a. reply_to found.before (under found.old.rules a)) (sym same) ∙ sym (ap (λ m. m.reply) found.minute_is) ∙ t.has_reply;
          })
    ] refl

-- and from then on
stands_on : (at cs : History) (c : Call) (given : Reply) → GoesOnFrom at cs → Stands at c given → Stands cs c given
stands_on at cs c given on there = record {
  rules = there.rules;
  later = on.0 ++ there.later;
  before = there.before;
  is = on.1 ∙ ap (λ h. on.0 ++ h) there.is ∙ sym (append_assoc on.0 there.later (under there.rules c ∷ there.before));
  same = there.same;
}

pub answered_calls_stand : AnsweredCallsStand
answered_calls_stand lives cs ends formed i given at was =
    let event : Event = record { item = i; fate = Answered given } in
    let parts : All IsFormed (was.earlier ++ event ∷ was.later) = subst (All IsFormed) was.is formed in
    let mine : IsItem i = All-head IsFormed event was.later (all_back IsFormed was.earlier (event ∷ was.later) parts) in
    let front = all_front IsFormed was.earlier (event ∷ was.later) parts in
    let order = front_in_order was.earlier (event ∷ was.later) (ap stand_in_order (sym was.is) ∙ lives_in_order lives ends.0 ends.1) in
    let history : IsHistory was.before = record {
      legal = left_in_order [] was.earlier was.before refl refl order was.reached;
      formed = left_formed [] was.earlier was.before (All-nil IsItem) front was.reached;
    } in
    let there : Stands at i.call given = subst (λ h. Stands h i.call given) (sym was.answered.1) (stands_at was.before i given history mine was.answered.0) in
    stands_on at cs i.call given (left_goes_on at was.later cs was.left) there
