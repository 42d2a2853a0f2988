-- Steps of an open desk, one after another: each leaves the history shown, or fails.
use Rattle.std.proofs.Common.{◌≡◌, ◌≢◌, inl, inr, Bool, true, false, Result, Ok, Err, refl, sym, ap, subst, ◌∙◌, arith}
use Rattle.std.specs.Prelude.{IfErr, IsErrOf}
use Rattle.sqlite.specs.Store as store
use Rattle.sqlite.specs.Held.{state}
use Rattle.sqlite.proofs.StateLemmas.{survives_then}
use Rattle.base.specs.declared.refusal.Refusal.{Refusal}
use Rattle.base.specs.declared.refusal.Refusal.TheVariants as refusals
use Rattle.store_reads.specs.Failures.{IsFailure}
use Rattle.store_desk.specs.Desks.{ReadsDesk}
use Rattle.store_desk.specs.Impacts.{IsAnswer, IsImpactRefusal, OnAnswer}
use Rattle.desk_rules.specs.Foreseen.{may_foresee}
use Rattle.store_desk.specs.declared.desk.Desk.{Desk}

-- ---- what came of a step

pub on_answer : {A : Type 0} (result : Result A Refusal) (P : Type 0) → P → OnAnswer result P
on_answer (Ok x) P p = p
on_answer (Err refusal) P p = λ no_memory no_store. p

pub on_failure : (refusal : Refusal) (P : Type 0) → IsFailure refusal → refusal ≢ refusals.NoMemory → refusal ≢ refusals.Store → P
on_failure refusal P failed no_memory no_store = elim failed [ inl is ↦ absurd (no_memory is) | inr is ↦ absurd (no_store is) ]

no_store : IsAnswer refusals.Store → ⊥
no_store it = elim it [
  | inl reader ↦ elim reader [ inl is ↦ absurd cc | inr is ↦ absurd cc ]
  | inr foreseen ↦ absurd (let h : may_foresee refusals.Store ≡ true = foreseen in cc)
]

pub not_store : {A : Type 0} (result : Result A Refusal) → IfErr result IsAnswer → IsErrOf result refusals.Store → ⊥
not_store (Ok x) answers is = absurd cc
not_store (Err refusal) answers is = let same : refusal ≡ refusals.Store = cc in no_store (subst IsAnswer same answers)

wider : (refusal : Refusal) → IsAnswer refusal → IsImpactRefusal refusal
wider refusal it = elim it [ inl reader ↦ inl reader | inr foreseen ↦ inr (inl foreseen) ]

failures : (refusal : Refusal) → IsFailure refusal → IsImpactRefusal refusal
failures refusal it = inr (inr it)

pub answers : {A : Type 0} (result : Result A Refusal) → IfErr result IsAnswer → IfErr result IsImpactRefusal
answers (Ok x) h = tt
answers (Err refusal) h = wider refusal h

-- a refusal that isn't Store, of whatever kind the result would be
pub no_store_either : {A B : Type 0} (refusal : Refusal) → (◌≡◌ {A = Result B Refusal} (Err refusal) (Err refusals.Store) → ⊥) → ◌≡◌ {A = Result A Refusal} (Err refusal) (Err refusals.Store) → ⊥
no_store_either refusal other is = other (let same : refusal ≡ refusals.Store = cc in ap Err same)

-- a failure is passed on
pub reads_wider : {S A B : Type 0} (g : store.Ghosts S) (old new : Desk S) (failure : Refusal) → old.needs_reopening ≡ false → ReadsDesk {A = A} g IsFailure old new (Err failure)
    → ReadsDesk {A = B} g IsImpactRefusal old new (Err failure)
reads_wider {A = A} {B = B} g old new failure usable it = record {
  same = λ clean other. it.same clean (no_store_either {A = A} {B = B} failure other);
  spares = it.spares;
  poisons = λ is. it.poisons (let same : failure ≡ refusals.Store = cc in ap Err same);
  steady = λ other. it.steady (no_store_either {A = A} {B = B} failure other);
  closed = λ is. absurd (let h = sym is ∙ usable in cc);
  named = λ usable. failures failure (it.named usable);
}

-- ---- steps of an open desk

module _ {S : Type 0} (g : store.Ghosts S) where
  named_more : {A : Type 0} (may other : Refusal → Type 0) → ((refusal : Refusal) → may refusal → other refusal) → (result : Result A Refusal) → IfErr result may → IfErr result other
  named_more may other f (Ok x) h = tt
  named_more may other f (Err refusal) h = f refusal h

  -- a step, and then another
  module _ {A B : Type 0} (may : Refusal → Type 0) (old mid new : Desk S) (x : A) (result : Result B Refusal) (wider : (refusal : Refusal) → IsFailure refusal → may refusal)
      (one : ReadsDesk g may old mid (Ok x)) (two : ReadsDesk g IsFailure mid new result) where
    usable : mid.needs_reopening ≡ old.needs_reopening
    usable = one.steady (λ is. absurd cc)

    reads_then : ReadsDesk g may old new result
    reads_then = record {
      same = λ clean other owner cs was. two.same clean other owner cs (one.same (omega (arith, two.spares.clean, clean)) (λ is. absurd cc) owner cs was);
      spares = survives_then (state g old.conn) (state g mid.conn) (state g new.conn) (λ _. ⊥) (λ _. ⊥) (λ _. ⊥) (λ _ _ none. none) (λ _ _ none. none) one.spares two.spares;
      poisons = two.poisons;
      steady = λ other. two.steady other ∙ usable;
      closed = λ is. absurd (let h = (one.closed is).0 in cc);
      named = λ is. named_more IsFailure may wider result (two.named (usable ∙ is));
    }

  -- only a usable desk gives Ok
  usable_of : {A : Type 0} (may : Refusal → Type 0) (old new : Desk S) (x : A) → ReadsDesk g may old new (Ok x) → (b : Bool) → old.needs_reopening ≡ b → b ≡ false
  usable_of may old new x it true is = absurd (let h = (it.closed is).0 in cc)
  usable_of may old new x it false is = refl

  -- a refusal is passed on
  pub reads_err : {A B : Type 0} (may : Refusal → Type 0) (old new : Desk S) (refusal : Refusal) → ReadsDesk {A = A} g may old new (Err refusal) → ReadsDesk {A = B} g may old new (Err refusal)
  reads_err {A = A} {B = B} may old new refusal it = record {
    same = λ clean other. it.same clean (no_store_either {A = A} {B = B} refusal other);
    spares = it.spares;
    poisons = λ is. it.poisons (let same : refusal ≡ refusals.Store = cc in ap Err same);
    steady = λ other. it.steady (no_store_either {A = A} {B = B} refusal other);
    closed = λ is. (let h = it.closed is in (let e = h.0 in let same : refusal ≡ refusals.Reopen = cc in ap Err same, h.1));
    named = it.named;
  }

  -- a failure answers nothing
  pub failed_unanswered : {A : Type 0} (first : Refusal → Type 0) (old mid : Desk S) (x : A) (failure : Refusal) (P : Type 0) → ReadsDesk g first old mid (Ok x)
      → (mid.needs_reopening ≡ false → IsFailure failure) → failure ≢ refusals.NoMemory → failure ≢ refusals.Store → P
  failed_unanswered first old mid x failure P one named =
      let usable : old.needs_reopening ≡ false = usable_of first old mid x one old.needs_reopening refl in
      on_failure failure P (named (one.steady (λ is. absurd cc) ∙ usable))

  -- Ok, of another value
  pub reads_ok : {A B : Type 0} (may : Refusal → Type 0) (old new : Desk S) (x : A) (y : B) → ReadsDesk g may old new (Ok x) → ReadsDesk g may old new (Ok y)
  reads_ok may old new x y it = record {
    same = λ clean other. it.same clean (λ is. absurd cc);
    spares = it.spares;
    poisons = λ is. absurd cc;
    steady = λ other. it.steady (λ is. absurd cc);
    closed = λ is. absurd (let h = (it.closed is).0 in cc);
    named = λ usable. tt;
  }

  -- a step of an impact, and then one that only fails
  pub reads_on : {A B : Type 0} (old mid new : Desk S) (x : A) (result : Result B Refusal) → ReadsDesk g IsImpactRefusal old mid (Ok x) → ReadsDesk g IsFailure mid new result
      → ReadsDesk g IsImpactRefusal old new result
  reads_on old mid new x result one two = reads_then IsImpactRefusal old mid new x result failures one two
