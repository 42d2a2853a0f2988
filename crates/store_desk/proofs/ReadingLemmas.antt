-- A reading, from the call of its name.
use Rattle.std.proofs.Common.{◌≡◌, ◌≢◌, ◌⊎◌, inl, inr, ℕ, List, Bool, true, false, Result, Ok, Err, refl, sym, ap, subst, ◌∙◌, arith}
use Rattle.std.specs.Prelude.{IfErr, IsTrue, MatchResult}
use Rattle.sqlite.specs.Store as store
use Rattle.base.specs.declared.refusal.Refusal.{Refusal}
use Rattle.base.specs.declared.refusal.Refusal.TheVariants as refusals
use Rattle.desk_exports.specs.Readings.{may_refuse}
use Rattle.desk_exports.specs.declared.reading.Reading.{Reading}
use Rattle.desk_history.specs.Calls.{History}
use Rattle.desk_history.specs.Shown.{IsGiven}
use Rattle.store_reads.specs.Failures.{IsFailure}
use Rattle.store_desk.specs.Desks.{ReadsDesk}
use Rattle.store_desk.specs.Showing.{GivesDue, IsReadingRefusal, IsReopened, ReadsOnly, RefusesDue}
use Rattle.store_desk.specs.declared.desk.Desk.{Desk}
use Rattle.store_desk.proofs.RefusalLemmas.{never_store}
use Rattle.store_desk.proofs.StreamLemmas.{no_store_either}

-- ---- what is given

-- what the call shows is what is shown
pub as_given : {A B C : Type 0} (d : Result A Refusal) (P : A → B → Type 0) (Q : A → C → Type 0) (x : B) (s : C) → ((w : A) → P w x → Q w s)
    → MatchResult d (λ w. P w x) (λ _. ⊥) → IsGiven d (Ok s) Q
as_given (Ok w) P Q x s each h = each w h
as_given (Err refusal) P Q x s each h = absurd h

-- ---- what came of the desk

pub named_anyhow : {A : Type 0} (may : Refusal → Type 0) (closed : Bool) (given : Result A Refusal)
    → (closed ≡ false → IfErr given may) → (closed ≡ true → given ≡ Err refusals.Reopen)
    → IfErr given (λ refusal. may refusal ⊎ ((refusal ≡ refusals.Reopen) × (closed ≡ true)))
named_anyhow may closed (Ok x) usable shut = tt
named_anyhow may true (Err refusal) usable shut = inr ((let h : Err refusal ≡ Err refusals.Reopen = shut refl in cc), refl)
named_anyhow may false (Err refusal) usable shut = inl (usable refl)

-- a usable desk that may only fail refuses nothing else
pub only_failures : (closed : Bool) (refusal : Refusal) → closed ≡ false → IsFailure refusal ⊎ ((refusal ≡ refusals.Reopen) × (closed ≡ true))
    → refusal ≢ refusals.NoMemory → refusal ≢ refusals.Store → ⊥
only_failures closed refusal usable (inl (inl memory)) no_memory no_store = no_memory memory
only_failures closed refusal usable (inl (inr store)) no_memory no_store = no_store store
only_failures closed refusal usable (inr reopen) no_memory no_store = let h : true ≡ false = sym reopen.1 ∙ usable in cc

module _ {S : Type 0} (g : store.Ghosts S) (may : Refusal → Type 0) (old new : Desk S) where
  pub of_reads : {A : Type 0} (result : Result A Refusal) → ReadsDesk g may old new result → ReadsOnly g may old new result
  of_reads result it = record {
    same = it.same;
    spares = λ owner cs was. it.spares;
    clean = λ end. omega (arith, it.spares.clean, end);
    poisons = it.poisons;
    steady = it.steady;
    named = named_anyhow may old.needs_reopening result it.named (λ is. (it.closed is).0);
  }

  -- Ok, of another value
  pub reads_ok : {A B : Type 0} (x : A) (y : B) → ReadsOnly g may old new (Ok x) → ReadsOnly g may old new (Ok y)
  reads_ok x y it = record {
    same = λ clean other owner cs was. it.same clean (λ is. absurd cc) owner cs was;
    spares = it.spares;
    clean = it.clean;
    poisons = λ is. absurd cc;
    steady = λ other. it.steady (λ is. absurd cc);
    named = tt;
  }

  not_store : {A B : Type 0} (refusal : Refusal) → (◌≡◌ {A = Result B Refusal} (Err refusal) (Err refusals.Store) → ⊥) → ◌≡◌ {A = Result A Refusal} (Err refusal) (Err refusals.Store) → ⊥
  not_store refusal other is = other (let same : refusal ≡ refusals.Store = cc in ap Err same)

  -- a refusal, passed on, of more refusals
  pub reads_err : {A B : Type 0} (more : Refusal → Type 0) (refusal : Refusal) → (may refusal → more refusal) → ReadsOnly {A = A} g may old new (Err refusal) → ReadsOnly {A = B} g more old new (Err refusal)
  reads_err {A = A} {B = B} more refusal wider it = record {
    same = λ clean other. it.same clean (not_store {A = A} {B = B} refusal other);
    spares = it.spares;
    clean = it.clean;
    poisons = λ is. it.poisons (let same : refusal ≡ refusals.Store = cc in ap Err same);
    steady = λ other. it.steady (not_store {A = A} {B = B} refusal other);
    named = elim it.named [ inl is ↦ inl (wider is) | inr reopen ↦ inr reopen ];
  }

-- ---- what came of a question of a person

told : {A : Type 0} (reading : Reading) (given : Result A Refusal) → IfErr given (λ r. IsTrue (may_refuse reading r)) → IfErr given (IsReadingRefusal reading)
told reading (Ok x) may = tt
told reading (Err refusal) may = inl may

-- what is given, or a refusal by the rules
pub reads_given : {S A : Type 0} (g : store.Ghosts S) (reading : Reading) (old new : Desk S) (given : Result A Refusal) → IfErr given (λ r. IsTrue (may_refuse reading r))
    → ReadsDesk g IsFailure old new (Ok given) → ReadsDesk g (IsReadingRefusal reading) old new given
reads_given g reading old new given may it = record {
  same = λ clean other. it.same clean (λ is. absurd cc);
  spares = it.spares;
  poisons = λ is. absurd (never_store reading given may is);
  steady = λ other. it.steady (λ is. absurd cc);
  closed = λ is. absurd (let h = (it.closed is).0 in cc);
  named = λ usable. told reading given may;
}

-- a failure
pub reads_failed : {S A B : Type 0} (g : store.Ghosts S) (reading : Reading) (old new : Desk S) (failure : Refusal) → old.needs_reopening ≡ false
    → ReadsDesk {A = A} g IsFailure old new (Err failure) → ReadsDesk {A = B} g (IsReadingRefusal reading) old new (Err failure)
reads_failed {A = A} {B = B} g reading old new failure usable it = record {
  same = λ clean other. it.same clean (no_store_either {A = A} {B = B} failure other);
  spares = it.spares;
  poisons = λ is. it.poisons (let same : failure ≡ refusals.Store = cc in ap Err same);
  steady = λ other. it.steady (no_store_either {A = A} {B = B} failure other);
  closed = λ is. absurd (let h = sym is ∙ usable in cc);
  named = λ usable. inr (it.named usable);
}

-- ---- what is given, for a reading that is known

module _ {S A : Type 0} (g : store.Ghosts S) (old new : Desk S) (result : Result A Refusal) (due : Reading → List ℕ → History → Result A Refusal → Type 0) (x y : Reading) (is : x ≡ y) where
  pub gives_for : GivesDue g old new result (due y) → GivesDue g old new result (due x)
  gives_for h = subst (λ z. GivesDue g old new result (due z)) (sym is) h

  pub refuses_for : RefusesDue g old new result (due y) → RefusesDue g old new result (due x)
  refuses_for h = subst (λ z. RefusesDue g old new result (due z)) (sym is) h

-- what is due at any history, or that the desk has to be opened again
pub shut_for : {A : Type 0} (result : Result A Refusal) (due : Reading → List ℕ → History → Result A Refusal → Type 0) (x y : Reading) → x ≡ y
    → IsReopened result ⊎ ((owner : List ℕ) (cs : History) → due y owner cs result) → IsReopened result ⊎ ((owner : List ℕ) (cs : History) → due x owner cs result)
shut_for result due x y is h = subst (λ z. IsReopened result ⊎ ((owner : List ℕ) (cs : History) → due z owner cs result)) (sym is) h
