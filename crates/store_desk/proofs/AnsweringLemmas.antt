-- The answers of a desk in a store, in the words of any desk that answers calls.
use Rattle.std.proofs.Common.{◌≡◌, ◌≢◌, ◌⊎◌, ◌∙◌, inl, inr, ℕ, List, [], ◌∷◌, Bool, true, false, cond, filter, find, Option, Some, None, Result, Ok, Err, IsTrue, refl, subst, sym, ap}
use Rattle.std.specs.Prelude.{IfErr, IfOk}
use Rattle.sqlite.specs.Store as sqlite
use Rattle.base.specs.declared.refusal.Refusal.{Refusal}
use Rattle.base.specs.declared.refusal.Refusal.TheVariants as refusals
use Rattle.desk_types.specs.declared.command.Call.{Call}
use Rattle.desk_types.specs.declared.command.Person.{Person}
use Rattle.desk_types.specs.declared.reply.Reply.{Reply}
use Rattle.desk_history.specs.Calls.{History}
use Rattle.desk_history.specs.People.{has_token, people}
use Rattle.desk_history.specs.DecisionRefusals.{may_answer}
use Rattle.desk_history.specs.Lives.{IsLeft}
use Rattle.desk_history.specs.Runs.{answer, next}
use Rattle.desk_history.specs.declared.answer.Answer.TheVariants as ruled
use Rattle.store_reads.specs.Reads.{listed}
use Rattle.sqlite.specs.Held.{state}
use Rattle.sqlite.specs.Tree.{Trees}
use Rattle.desk_types.specs.Formed.{IsCall}
use Rattle.store_schema.specs.rows.Histories.{HoldsHistory}
use Rattle.store_sql.specs.States.{Spares}
use Rattle.store_desk.specs.Answering.{LeavesOne}
use Rattle.store_desk.specs.Desks.{IsCallRefusal, MayStop, Refuses, ShowsDesk}
use Rattle.store_desk.specs.Showing as store
use Rattle.store_desk.specs.declared.desk.Desk.{Desk}
use Rattle.desk_exports.specs.Desks.{IsOutage, IsReadingRefusal, person_with}
use Rattle.desk_exports.specs.Readings.{may_refuse}
use Rattle.desk_exports.specs.declared.reading.Reading.{Reading}
use Rattle.desk_exports.specs.declared.reading.Reading.TheVariants as read
use Rattle.store_desk.proofs.ActingLemmas.{next_history}
use Rattle.store_desk.proofs.OpeningLemmas.{still_leaves}

-- ---- readings

-- a failure is an outage, and so is a desk that has to be opened again
reading_refused : (reading : Reading) (closed : Bool) (r : Refusal) → store.IsReadingRefusal reading r ⊎ ((r ≡ refusals.Reopen) × (closed ≡ true)) → IsReadingRefusal reading r
reading_refused reading closed r (inl (inl due)) = inl due
reading_refused reading closed r (inl (inr (inl memory))) = inr (inl memory)
reading_refused reading closed r (inl (inr (inr failed))) = inr (inr (inl failed))
reading_refused reading closed r (inr reopen) = inr (inr (inr reopen.0))

pub reading_named : {X : Type 0} (reading : Reading) (closed : Bool) (given : Result X Refusal)
    → IfErr given (λ r. store.IsReadingRefusal reading r ⊎ ((r ≡ refusals.Reopen) × (closed ≡ true))) → IfErr given (IsReadingRefusal reading)
reading_named reading closed (Ok x) h = tt
reading_named reading closed (Err r) h = reading_refused reading closed r h

not_true : IsTrue false → ⊥
not_true h = cc

-- a desk that needn't be opened again isn't due to say so
never_reopen : (reading : Reading) → IsTrue (may_refuse reading refusals.Reopen) → ⊥
never_reopen read.Requests h = not_true h
never_reopen (read.RequestsFrom n) h = not_true h
never_reopen (read.RequestsWith digest) h = not_true h
never_reopen (read.Request k) h = not_true h
never_reopen read.Proposals h = not_true h
never_reopen (read.ProposalsFrom n) h = not_true h
never_reopen (read.Proposal k) h = not_true h
never_reopen (read.Impact k) h = not_true h
never_reopen read.Waiting h = not_true h
never_reopen read.Changes h = not_true h
never_reopen (read.Export what) h = not_true h
never_reopen read.Report h = not_true h
never_reopen (read.Minutes n) h = not_true h
never_reopen read.People h = not_true h
never_reopen read.Me h = not_true h

reopens : (reading : Reading) (closed : Bool) → closed ≡ false → store.IsReadingRefusal reading refusals.Reopen ⊎ ((refusals.Reopen ≡ refusals.Reopen) × (closed ≡ true)) → ⊥
reopens reading closed usable (inl (inl due)) = never_reopen reading due
reopens reading closed usable (inl (inr (inl memory))) = cc
reopens reading closed usable (inl (inr (inr failed))) = cc
reopens reading closed usable (inr reopen) = let h : true ≡ false = sym reopen.1 ∙ usable in cc

pub reading_usable : {X : Type 0} (reading : Reading) (closed : Bool) (given : Result X Refusal) → closed ≡ false
    → IfErr given (λ r. store.IsReadingRefusal reading r ⊎ ((r ≡ refusals.Reopen) × (closed ≡ true))) → given ≢ Err refusals.Reopen
reading_usable reading closed (Ok x) usable h is = cc
reading_usable reading closed (Err r) usable h is =
    let same : r ≡ refusals.Reopen = cc in
    reopens reading closed usable (subst (λ y. store.IsReadingRefusal reading y ⊎ ((y ≡ refusals.Reopen) × (closed ≡ true))) same h)

-- ---- people

module _ {X : Type 0} (p : X → Bool) where
  first_is : (x : X) (rest : List X) (o : Option X) → x ∷ rest ≡ listed o → Some x ≡ o
  first_is x rest None e = absurd cc
  first_is x rest (Some y) e = (let same : x ≡ y = cc in ap Some same)

  found_next : (x : X) (xs : List X) (o : Option X) → filter p (x ∷ xs) ≡ listed o → (filter p xs ≡ listed o → find p xs ≡ o) → (b : Bool) → p x ≡ b
      → find p (x ∷ xs) ≡ o
  found_next x xs o e rest true h =
      ap (λ b. cond b (Some x) (find p xs)) h ∙ first_is x (filter p xs) o (sym (ap (λ b. cond b (x ∷ filter p xs) (filter p xs)) h) ∙ e)
  found_next x xs o e rest false h =
      ap (λ b. cond b (Some x) (find p xs)) h ∙ rest (sym (ap (λ b. cond b (x ∷ filter p xs) (filter p xs)) h) ∙ e)

  -- the one item that passes is the first
  found_alone : (xs : List X) (o : Option X) → filter p xs ≡ listed o → find p xs ≡ o
  found_alone [] None e = refl
  found_alone [] (Some y) e = absurd cc
  found_alone (x ∷ xs) o e = found_next x xs o e (found_alone xs o) (p x) refl

pub one_person : (given : Result (Option Person) Refusal) (token : List ℕ) (shows : List ℕ → History → Type 0)
    → IfOk given (λ person. (owner : List ℕ) (cs : History) → shows owner cs → filter (has_token token) (people cs) ≡ listed person)
    → IfOk given (λ person. (owner : List ℕ) (cs : History) → shows owner cs → person ≡ person_with token cs)
one_person (Ok person) token shows all = λ owner cs was. sym (found_alone (has_token token) (people cs) person (all owner cs was))
one_person (Err refusal) token shows all = tt

-- ---- commands

module _ {S : Type 0} (g : sqlite.Ghosts S) (old new : Desk S) (c : Call) where
  pub refused_rules : (given : Result Reply Refusal) → IfErr given (Refuses g old new c)
      → IfErr given (λ refusal. refusal ≢ refusals.NoMemory → refusal ≢ refusals.Store → (owner : List ℕ) (cs : History) → ShowsDesk g old owner cs → answer cs c ≡ ruled.Refused refusal)
  refused_rules (Ok reply) refuses = tt
  refused_rules (Err refusal) refuses = λ no_memory no_store owner cs was. (refuses no_store owner cs was).0 no_memory

  pub refused_same : (given : Result Reply Refusal) → IfErr given (Refuses g old new c)
      → IfErr given (λ refusal. refusal ≢ refusals.Store → (owner : List ℕ) (cs : History) → ShowsDesk g old owner cs → ShowsDesk g new owner cs)
  refused_same (Ok reply) refuses = tt
  refused_same (Err refusal) refuses = λ no_store owner cs was. (refuses no_store owner cs was).1

-- a refusal of a call is that of a decision, or an outage
call_named : (closed : Bool) (r : Refusal) → (closed ≡ true → r ≡ refusals.Reopen) → (closed ≡ false → IsCallRefusal r) → IsTrue (may_answer r) ⊎ IsOutage r
call_named true r shut named = inr (inr (inr (shut refl)))
call_named false r shut named = elim (named refl) [ inl due ↦ inl due | inr store ↦ inr (inr (inl store)) ]

no_reopen : IsCallRefusal refusals.Reopen → ⊥
no_reopen (inl due) = not_true due
no_reopen (inr store) = cc

module _ {S : Type 0} (old new : Desk S) where
  pub apply_named : (given : Result Reply Refusal) → (old.needs_reopening ≡ true → (given ≡ Err refusals.Reopen) × (new ≡ old))
      → (old.needs_reopening ≡ false → IfErr given IsCallRefusal) → IfErr given (λ refusal. IsTrue (may_answer refusal) ⊎ IsOutage refusal)
  apply_named (Ok reply) shut named = tt
  apply_named (Err r) shut named = call_named old.needs_reopening r (λ closed. (let both = (shut closed).0 in cc)) named

  pub apply_usable : (given : Result Reply Refusal) → old.needs_reopening ≡ false → (old.needs_reopening ≡ false → IfErr given IsCallRefusal) → given ≢ Err refusals.Reopen
  apply_usable given usable named is = no_reopen (subst (λ r. IfErr r IsCallRefusal) is (named usable))

-- ---- stops

-- a call that only reads spares what was shown
pub still_one : {S : Type 0} (g : sqlite.Ghosts S) (old new : Desk S) → ((owner : List ℕ) (cs : History) → ShowsDesk g old owner cs → Spares g old.conn new.conn)
    → (owner : List ℕ) (cs : History) → ShowsDesk g old owner cs → LeavesOne (state g new.conn) owner cs cs
still_one g old new spared owner cs was = record {
  first = was.history;
  next = was.history;
  left = λ clean db may.
      inl (still_leaves (λ db. HoldsHistory db owner cs) (state g old.conn) (state g new.conn) (spared owner cs was) was.left clean db may);
}

-- after a call there is the history before it, or the one after it
one_is_left : (db : Trees) (owner : List ℕ) (cs later : History) (c : Call) → IsLeft cs c later → HoldsHistory db owner later
    → HoldsHistory db owner cs ⊎ HoldsHistory db owner (next cs c)
one_is_left db owner cs later c (inl same) holds = inl (subst (λ h. HoldsHistory db owner h) same holds)
one_is_left db owner cs later c (inr one) holds = inr (subst (λ h. HoldsHistory db owner h) one holds)

pub next_one : {S : Type 0} (g : sqlite.Ghosts S) (old new : Desk S) (c : Call) → IsCall c → MayStop g old new c
    → (owner : List ℕ) (cs : History) → ShowsDesk g old owner cs → LeavesOne (state g new.conn) owner cs (next cs c)
next_one g old new c formed stops owner cs was = record {
  first = was.history;
  next = next_history cs c was.history formed;
  left = λ clean db may. (let left = stops owner cs was clean db may in one_is_left db owner cs left.0 c left.1 left.2);
}
