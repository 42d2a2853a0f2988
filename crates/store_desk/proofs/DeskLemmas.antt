-- The step from the effect of a call on the connection to the history that the desk shows after it.
use Rattle.std.proofs.Common.{◌≡◌, inl, inr, ℕ, List, None, true, false, refl, sym, ap, subst, ◌∙◌, arith, IsTrue}
use Rattle.sqlite.specs.Store as store
use Rattle.sqlite.specs.Held.{state}
use Rattle.sqlite.specs.State.{Survives}
use Rattle.desk_types.specs.Formed.{IsCall}
use Rattle.desk_types.specs.declared.command.Call.{Call}
use Rattle.desk_history.specs.Calls.{History}
use Rattle.desk_history.specs.Runs.{answer, is_accepted, next}
use Rattle.desk_history.specs.Tables.{tables}
use Rattle.store_decision_rows.specs.declared.remembered.Remembered.{Remembered}
use Rattle.store_sql.specs.States.{Leaves}
use Rattle.store_desk.specs.Acts.{LeavesNext, Runs}
use Rattle.store_desk.specs.Desks.{ShowsDesk}
use Rattle.store_schema.specs.rows.Histories.{HoldsHistory, HoldsLeft, LeavesHistory, ShowsHistory}
use Rattle.store_desk.specs.Pasts.{Past}
use Rattle.store_desk.specs.declared.acting.Acted.{Acted}
use Rattle.store_desk.specs.declared.desk.Desk.{Desk}
use Rattle.store_desk.proofs.ActingLemmas.{next_history, next_same}
use Rattle.store_desk.proofs.OpeningLemmas.{still_leaves}
use Rattle.store_desk.proofs.RememberedLemmas.{forgets}

-- a read that changes nothing of what is remembered
pub reads_shown : {S : Type 0} (g : store.Ghosts S) (old new : Desk S) → Survives (state g old.conn) (state g new.conn) (λ _. ⊥) → new.needs_reopening ≡ false
    → ((owner : List ℕ) (cs : History) → ShowsHistory (state g old.conn) owner cs → ShowsHistory (state g new.conn) owner cs) → new.owner ≡ old.owner → new.remembered ≡ old.remembered
    → (owner : List ℕ) (cs : History) → ShowsDesk g old owner cs → ShowsDesk g new owner cs
reads_shown g old new s usable same own remembered owner cs was = record {
  usable = usable;
  history = was.history;
  shows = same owner cs was.shows;
  own = own ∙ was.own;
  remembered = rw remembered was.remembered;
  left = still_leaves (λ db. HoldsHistory db owner cs) (state g old.conn) (state g new.conn) s was.left;
}

-- a call for which what the desk remembers was taken
module _ {S : Type 0} (g : store.Ghosts S) (old new : Desk S) (c : Call) (taken : Remembered) (is : taken ≡ old.remembered) where
  -- the history that the desk shows before the call
  abbrev pub past : (owner : List ℕ) (cs : History) → ShowsDesk g old owner cs → Past taken
  past owner cs was = record { owner = owner; calls = cs; history = was.history; right = rw is was.remembered }

  -- a call that isn't accepted commits nothing
  pub spares : Survives (state g old.conn) (state g new.conn) (LeavesNext (state g old.conn) taken c)
      → (owner : List ℕ) (cs : History) → ShowsDesk g old owner cs → is_accepted (answer cs c) ≡ false → Survives (state g old.conn) (state g new.conn) (λ _. ⊥)
  spares s owner cs was out = record {
    clean = s.clean;
    shield = s.shield;
    counts = s.counts;
    limit = s.limit;
    closes = s.closes;
    crash = λ clean db may. elim (s.crash clean db may) [
      | inl before ↦ inl before
      | inr left ↦ absurd (let a = sym (left (past owner cs was) was.shows).0 ∙ out in cc)
    ];
  }

  -- a call that commits nothing and changes no history
  pub stays_shown : Survives (state g old.conn) (state g new.conn) (λ _. ⊥) → new.needs_reopening ≡ false
      → ((owner : List ℕ) (cs : History) → ShowsHistory (state g old.conn) owner cs → ShowsHistory (state g new.conn) owner cs)
      → new.owner ≡ old.owner → new.remembered ≡ record old.remembered { person = None }
      → (owner : List ℕ) (cs : History) → ShowsDesk g old owner cs → ShowsDesk g new owner cs
  stays_shown s usable same own forgot owner cs was = record {
    usable = usable;
    history = was.history;
    shows = same owner cs was.shows;
    own = own ∙ was.own;
    remembered = rw forgot (forgets old.remembered (tables owner cs) was.remembered);
    left = still_leaves (λ db. HoldsHistory db owner cs) (state g old.conn) (state g new.conn) s was.left;
  }

  -- the history after a stop
  pub stopped : Survives (state g old.conn) (state g new.conn) (LeavesNext (state g old.conn) taken c)
      → (owner : List ℕ) (cs : History) → ShowsDesk g old owner cs → Leaves (state g new.conn) (λ db. HoldsLeft db owner cs c)
  stopped s owner cs was clean db may = elim (s.crash clean db may) [
    | inl before ↦ (cs, inl refl, was.left (omega (arith, s.clean, clean)) db before)
    | inr left ↦ (next cs c, inr refl, (left (past owner cs was) was.shows).1)
  ]

  -- the desk after a call that was answered
  pub goes_on : (acted : Acted) → Runs taken c acted (state g old.conn) (state g new.conn) → Survives (state g old.conn) (state g new.conn) (LeavesNext (state g old.conn) taken c)
      → ((owner : List ℕ) (cs : History) → ShowsHistory (state g new.conn) owner cs → IsTrue (state g new.conn).is_open → LeavesHistory (state g new.conn) owner cs)
      → IsCall c → new.owner ≡ old.owner → new.remembered ≡ acted.remembered → new.needs_reopening ≡ old.needs_reopening
      → (owner : List ℕ) (cs : History) → ShowsDesk g old owner cs → (answer cs c ≡ acted.answer) × ShowsDesk g new owner (next cs c)
  goes_on acted runs s law formed own remembered same owner cs was =
      let it = runs.answered (past owner cs was) was.shows in
      let shows = runs.shown (past owner cs was) was.shows in (
        it.exact,
        record {
          usable = same ∙ was.usable;
          history = next_history cs c was.history formed;
          shows = shows;
          own = own ∙ was.own;
          remembered = rw remembered it.right;
          left = elim (is_accepted (answer cs c)) as (λ b. is_accepted (answer cs c) ≡ b → LeavesHistory (state g new.conn) owner (next cs c)) [
            | true ↦ λ accepted. law owner (next cs c) shows (runs.is_open (ap is_accepted (sym it.exact) ∙ accepted))
            | false ↦ λ out. subst (λ (later : History). LeavesHistory (state g new.conn) owner later) (sym (next_same cs c out)) (λ clean db may. elim (s.crash clean db may) [
              | inl before ↦ was.left (omega (arith, s.clean, clean)) db before
              | inr left ↦ absurd (let a = sym (left (past owner cs was) was.shows).0 ∙ out in cc)
            ])
          ] refl;
        },
      )
