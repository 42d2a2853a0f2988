-- Calls that are accepted and are no repeats, and the lines of their minutes.
use Rattle.std.proofs.Common.{◌≡◌, ◌≢◌, ◌⊎◌, inl, inr, Result, Ok, Err, ℕ, ◌+◌, ◌<◌, ◌^◌, ◌∙◌, Bool, true, false, not, ◌&&◌, List, [], ◌∷◌, length, Option, Some, None, bytes_eq, refl, sym, ap, subst, arith}
use Rattle.std.specs.Prelude.{if◌then◌else◌, IfNone, IfSome}
use Rattle.std.specs.List.{list_all}
use Rattle.std.proofs.lemmas.List.Elements.{All-cons}
use Rattle.base.specs.declared.refusal.Refusal.{Refusal}
use Rattle.base.specs.declared.refusal.Refusal.TheVariants as refusals
use Rattle.desk_types.specs.CommandTexts.{text_of}
use Rattle.desk_types.specs.Formed.{IsCall}
use Rattle.desk_types.specs.declared.command.Call.{Call}
use Rattle.desk_types.specs.declared.reply.Reply.{Reply}
use Rattle.desk_types.proofs.FormLemmas.{both, joined}
use Rattle.desk_history.specs.Calls.{First, History, Item, Rules, Second, is_first, item, under}
use Rattle.desk_history.specs.Formed.{IsHistory, IsItem}
use Rattle.desk_history.specs.Lives.{IsLeft}
use Rattle.desk_history.specs.Refusals.{is_known, refusal_of}
use Rattle.desk_history.specs.Replies.{minute_of, minutes, reply_to}
use Rattle.desk_history.specs.Tables.{Tables, tables}
use Rattle.desk_history.specs.Writes.{all_written}
use Rattle.desk_rules.specs.Decisions.{Decides}
use Rattle.desk_rules.specs.declared.view.Changes.{Changes}
use Rattle.sqlite.specs.State.{State, Survives}
use Rattle.sqlite.specs.Tree.{Trees}
use Rattle.store_sql.specs.States.{Leaves}
use Rattle.desk_history.specs.Runs.{answer, answer_known, earlier, is_accepted, is_legal, joins, may_follow, next, ruling}
use Rattle.desk_history.specs.declared.answer.Answer.{Answer}
use Rattle.desk_history.specs.declared.answer.Answer.TheVariants.{Accepted, Refused, Repeated}
use Rattle.desk_history.specs.declared.rows.Minute.{Minute}
use Rattle.desk_exports.specs.Exports.{minute_line}
use Rattle.desk_minutes.specs.Follows.{HasNoNext}
use Rattle.desk_minutes.specs.Lines.{IsTold, line_with}
use Rattle.desk_minutes.proofs.LineLemmas.{line_same}
use Rattle.desk_minutes.proofs.TextLemmas.{told_newest}
use Rattle.store_reads.specs.Failures.{IsFailure}
use Rattle.store_minutes.specs.Faults.{IsDeskFailure}
use Rattle.store_minutes.specs.Following.{GoesOn, GoesOnAs, HasNoneAs, HasNoneBy}

-- ---- calls that are accepted

-- such a call joins the history
pub accepted_next : (cs : History) (c : Call) (r : Reply) → answer cs c ≡ Accepted r → next cs c ≡ item c ∷ cs
accepted_next cs c r h = ap (λ a. if is_accepted a then item c ∷ cs else cs) h

replied : (known : Bool) (m : Option Minute) (text : List ℕ) (refusal : Option Refusal) (given r : Reply)
    → ((if not known then Refused refusals.UnknownCaller else answer_known m text refusal given) ≡ Accepted r) → given ≡ r
replied false m text refusal given r h = absurd (cc)
replied true (Some m) text refusal given r h =
    elim (bytes_eq m.text text) as (λ b. (if b then Repeated m.reply else Refused refusals.KeyReused) ≡ Accepted r → given ≡ r) [ true ↦ λ e. absurd (cc) | false ↦ λ e. absurd (cc) ] h
replied true None text (Some refusal) given r h = absurd (cc)
replied true None text None given r h = cc

-- it is accepted with the reply that is due
pub accepted_reply : (cs : History) (i : Item) (r : Reply) → ruling cs i ≡ Accepted r → reply_to cs i ≡ r
accepted_reply cs i r h = replied (is_known cs i.call.caller) (earlier cs i.call) (text_of i.call.command) (refusal_of cs i) (reply_to cs i) r h

-- ---- lines

pub history_more : (cs : History) (i : Item) → IsHistory cs → IsItem i → joins cs i ≡ true → IsHistory (i ∷ cs)
history_more cs i h formed may = record {
  legal = joined (joins cs i) (is_legal cs) may h.legal;
  formed = All-cons IsItem i cs formed h.formed;
}

pub told : (cs : History) (i : Item) → IsHistory cs → IsItem i → joins cs i ≡ true → IsTold i.call (reply_to cs i)
told cs i h formed may = told_newest cs i (history_more cs i h formed may)

-- the line of the next minute, under its number
pub line_numbered : (cs : History) (n : ℕ) (i : Item) → n ≡ length cs + 1 → minute_line (minute_of cs i) ≡ line_with n i.call (reply_to cs i)
line_numbered cs n i is = ap (λ m. line_with m i.call (reply_to cs i)) (sym is)

-- ---- the lines that no call has

-- a line that isn't read is that of no call
pub none_read : (cs : History) (line : List ℕ) (n : ℕ) → IsHistory cs → n ≡ length cs + 1 → ((c : Call) (r : Reply) → IsTold c r → line ≡ line_with n c r → ⊥) → HasNoNext cs line
none_read cs line n h is none i formed may same = none i.call (reply_to cs i) (told cs i h formed may) (same ∙ line_numbered cs n i is)

-- what was read of a line is the call and the reply of whichever call has it
module _ (cs : History) (line : List ℕ) (n : ℕ) (c : Call) (r : Reply) (h : IsHistory cs) (small : n < 2 ^ 64) (is : n ≡ length cs + 1) (read : IsTold c r) (spelt : line ≡ line_with n c r) where
  pub same_read : (i : Item) → IsItem i → joins cs i ≡ true → line ≡ minute_line (minute_of cs i) → (c ≡ i.call) × (r ≡ reply_to cs i)
  same_read i formed may same = line_same n c i.call r (reply_to cs i) small read (told cs i h formed may) (sym spelt ∙ same ∙ line_numbered cs n i is)

  pub only_by : (rules : Rules) → (joins cs (under rules c) ≡ true → reply_to cs (under rules c) ≡ r → ⊥) → HasNoneBy rules cs line
  only_by rules none d formed may same =
      let one = same_read (under rules d) formed may same in
      none (ap (λ e. joins cs (under rules e)) one.0 ∙ may) (ap (λ e. reply_to cs (under rules e)) one.0 ∙ sym one.1)

-- the same whatever the number
module _ (cs : History) (line : List ℕ) (n : ℕ) (h : IsHistory cs) where
  pub none_read_as : ((c : Call) (r : Reply) → IsTold c r → line ≡ line_with n c r → ⊥) → HasNoneAs n cs line
  none_read_as none d formed may same = none d (reply_to cs (item d)) (told cs (item d) h formed may) same

  pub none_as : (c : Call) (r : Reply) → n < 2 ^ 64 → IsTold c r → line ≡ line_with n c r → (joins cs (item c) ≡ true → reply_to cs (item c) ≡ r → ⊥) → HasNoneAs n cs line
  none_as c r small read spelt none d formed may same =
      let one = line_same n c d r (reply_to cs (item d)) small read (told cs (item d) h formed may) (sym spelt ∙ same) in
      none (ap (λ e. joins cs (item e)) one.0 ∙ may) (ap (λ e. reply_to cs (item e)) one.0 ∙ sym one.1)

-- the first rules accept nothing after a call by the second
pub none_past : (cs : History) (line : List ℕ) → list_all is_first cs ≡ false → HasNoneBy Second cs line → HasNoNext cs line
none_past cs line past none i formed may same = by i.call i.rules formed may same
  where
    by : (d : Call) (s : Rules) → IsCall d → joins cs (under s d) ≡ true → line ≡ minute_line (minute_of cs (under s d)) → ⊥
    by d Second formed may same = none d formed may same
    by d First formed may same =
        let first = (both (is_accepted (ruling cs (under First d))) (list_all is_first cs) may).1 in
        absurd (cc)

-- ---- calls that aren't accepted, and replies that differ

-- the rules accept no call, or give another reply than the line tells
pub by_reply : {X N : Type 0} (P : Reply → Type 0) (o : Option Reply) (told : Reply) → IfNone o N → IfSome o P → o ≢ Some told → (N → X) → ((r : Reply) → P r → r ≢ told → X) → X
by_reply P None told none some differs f k = f none
by_reply P (Some r) told none some differs f k = k r some (λ e. differs (ap Some e))

pub not_accepted : (a : Answer) (m : Bool) → is_accepted a ≡ false → (is_accepted a && m) ≡ true → ⊥
not_accepted a m h e = let yes_it_is = (both (is_accepted a) m e).0 in absurd (cc)

-- the line that was read is that of the call, if the rules give the reply that it tells
pub read_is : (cs : History) (line : List ℕ) (n : ℕ) (i : Item) (r : Reply) → n ≡ length cs + 1 → line ≡ line_with n i.call r → ruling cs i ≡ Accepted r
    → line ≡ minute_line (minute_of cs i)
read_is cs line n i r is spelt accepted = spelt ∙ ap (line_with n i.call) (sym (accepted_reply cs i r accepted)) ∙ sym (line_numbered cs n i is)

pub spelt_as : (cs : History) (line : List ℕ) (n : ℕ) (i : Item) (r : Reply) → line ≡ line_with n i.call r → ruling cs i ≡ Accepted r
    → line ≡ line_with n i.call (reply_to cs i)
spelt_as cs line n i r spelt accepted = spelt ∙ ap (line_with n i.call) (sym (accepted_reply cs i r accepted))

pub may_join : (cs : History) (i : Item) (r : Reply) → ruling cs i ≡ Accepted r → may_follow cs i ≡ true → joins cs i ≡ true
may_join cs i r h e = joined (is_accepted (ruling cs i)) (may_follow cs i) (ap is_accepted h) e

-- ---- a decision that isn't carried out

-- a call with writes is accepted
pub reply_is_due : (changes : Changes) (owner : List ℕ) (cs : History) (c : Call) → length changes.writes.items ≢ 0 → Decides changes owner cs c → answer cs c ≡ Accepted changes.reply
reply_is_due changes owner cs c some decides = elim decides.told [ inl accepted ↦ accepted | inr repeated ↦ absurd (some (ap length repeated.1)) ]

-- one without is a repeat: an accepted call writes its own row
pub none_due : (changes : Changes) (owner : List ℕ) (cs : History) (c : Call) → length changes.writes.items ≡ 0 → Decides changes owner cs c → is_accepted (answer cs c) ≡ false
none_due changes owner cs c none decides = elim decides.told [
  | inl accepted ↦ absurd (let same : tables owner cs ≡ tables owner (item c ∷ cs) =
      sym (ap (λ ws. all_written ws (tables owner cs)) (no_items changes.writes.items none)) ∙ decides.made ∙ ap (tables owner) (accepted_next cs c changes.reply accepted) in
      let long : length (minutes cs) ≡ length (minutes (item c ∷ cs)) = ap (λ (t : Tables). length t.calls) same in
      omega (arith, long))
  | inr repeat ↦ ap is_accepted repeat.0
]
  where
    no_items : {X : Type 0} (xs : List X) → length xs ≡ 0 → xs ≡ []
    no_items [] h = refl
    no_items (x ∷ xs) h = absurd (omega (arith, h))

pub no_store : {A : Type 0} (a : A) → ◌≢◌ {A = Result A Refusal} (Ok a) (Err refusals.Store)
no_store a e = cc

-- a call that commits nothing leaves what it left before
pub still_leaves : (P : Trees → Type 0) (old new : State) → Survives old new (λ _. ⊥) → Leaves old P → Leaves new P
still_leaves P old new spared left clean db may = elim (spared.crash clean db may) [
  | inl was ↦ left (omega (arith, spared.clean, clean)) db was
  | inr none ↦ absurd none
]

-- ---- what a stop leaves

-- the history before an accepted call, or the one with it
pub either : (P : History → Type 0) (cs : History) (c : Call) (r : Reply) (line : List ℕ) → answer cs c ≡ Accepted r → IsCall c → line ≡ minute_line (minute_of cs (item c))
    → (later : History) → IsLeft cs c later → P later → P cs ⊎ GoesOn Second P cs line
either P cs c r line accepted formed is later (inl same) p = inl (subst P same p)
either P cs c r line accepted formed is later (inr next) p = inr (record {
  call = c;
  formed = formed;
  accepted = may_join cs (item c) r accepted refl;
  is = is;
  shows = subst P (next ∙ accepted_next cs c r accepted) p;
})

pub either_as : (P : History → Type 0) (cs : History) (c : Call) (r : Reply) (line : List ℕ) (n : ℕ) → answer cs c ≡ Accepted r → IsCall c → line ≡ line_with n c r
    → (later : History) → IsLeft cs c later → P later → P cs ⊎ GoesOnAs n P cs line
either_as P cs c r line n accepted formed spelt later (inl same) p = inl (subst P same p)
either_as P cs c r line n accepted formed spelt later (inr next) p = inr (record {
  call = c;
  formed = formed;
  accepted = may_join cs (item c) r accepted refl;
  is = spelt_as cs line n (item c) r spelt accepted;
  shows = subst P (next ∙ accepted_next cs c r accepted) p;
})

-- ---- a device's failure

pub desk_failed : (closed : Bool) (r : Refusal) → (closed ≡ false → IsFailure r) → (closed ≡ true → r ≡ refusals.Reopen) → IsDeskFailure r
desk_failed true r usable reopen = inl (reopen refl)
desk_failed false r usable reopen = inr (usable refl)
