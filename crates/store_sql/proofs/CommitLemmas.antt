-- The step from the end of a transaction to the contents of the connection after it, and after a
-- stop.
use Rattle.std.proofs.Common.{◌≡◌, inl, inr, true, refl, sym, ap, subst, ◌∙◌, arith, IsTrue, ℕ, List}
use Rattle.sqlite.specs.Store as store
use Rattle.sqlite.specs.declared.error.Error.{Error}
use Rattle.sqlite.specs.Tree.{Trees}
use Rattle.sqlite.specs.Held.{Held, state}
use Rattle.sqlite.specs.Effect.{Database}
use Rattle.sqlite.specs.Order.{Row}
use Rattle.sqlite.specs.State.{State, HasCleanDisk, IsNotRun, IsRolledBack, IsUnchanged, KeepsCommit, Survives}
use Rattle.sqlite.specs.Steps.{FailsToCommit}
use Rattle.sqlite.proofs.StateLemmas.{survives_then}
use Rattle.sqlite.proofs.Callers.{survives_begin}
use Rattle.store_sql.specs.Contents.{Contents, Holds}
use Rattle.store_sql.specs.Layouts.{Layout}
use Rattle.store_sql.specs.States.{CommitsNothing, Shows, Spares}

-- a stop of a call that commits nothing leaves no more than one of a call that may commit
pub leaves_more : (P : Trees → Type 0) (old new : State) → Survives old new (λ _. ⊥) → Survives old new P
leaves_more P old new s = record {
  clean = s.clean;
  shield = s.shield;
  counts = s.counts;
  limit = s.limit;
  closes = s.closes;
  crash = λ clean db may. elim (s.crash clean db may) [ inl was ↦ inl was | inr none ↦ absurd none ];
}

-- a step that commits nothing leaves what those before it may
pub and_then : (P : Trees → Type 0) (old mid new : State) → Survives old mid P → Survives mid new (λ _. ⊥) → Survives old new P
and_then P old mid new s more = survives_then old mid new P (λ _. ⊥) P (λ _ db p. p) (λ _ db none. absurd none) s more

module _ (layout : Layout) (c : Contents) where
  -- a connection that nothing changes shows the same
  pub unchanged_shows : (old new : State) → HasCleanDisk old → IsUnchanged old new → Shows layout old c → Shows layout new c
  unchanged_shows old new clean same shows = record {
    outside = same.0.mode ∙ shows.outside;
    holds = λ _ _. (let was = shows.holds clean same.0.was_open in
        (subst (λ (d : Database). Holds layout d c) (sym same.0.now_is) was.0, same.0.now_is ∙ was.1 ∙ sym same.0.committed_is));
  }

  -- and so does one that is back at its last commit
  back_shows : (old new : State) → HasCleanDisk old → IsRolledBack old new → Shows layout old c → Shows layout new c
  back_shows old new clean back shows = record {
    outside = back.autocommit;
    holds = λ _ live.
        let gone = back.undone live in
        let was = shows.holds clean (back.was_open live) in
        (subst (λ (d : Database). Holds layout d c) (sym (gone.0 ∙ sym was.1)) was.0, gone.0 ∙ sym gone.1);
  }

  -- a text that isn't run changes nothing outside a transaction
  pub not_run_shows : (old new : State) (sql : List ℕ) (params : Row) (e : Error) → HasCleanDisk old → IsNotRun old new sql params e → Shows layout old c → Shows layout new c
  unfolding IsNotRun
  not_run_shows old new sql params e clean (inl same) shows = unchanged_shows old new clean same.1 shows
  not_run_shows old new sql params e clean (inr fails) shows = back_shows old new clean fails.3 shows

-- the connection inside a transaction that began with it
abbrev pub begun : {S : Type 0} → store.Ghosts S → Held S → State
begun g old = state g (record old { in_transaction = true })

module _ {S : Type 0} (g : store.Ghosts S) (old last end : Held S) where
  -- a transaction that is rolled back leaves what the connection shows
  pub undone_shows : (layout : Layout) (c : Contents) → HasCleanDisk (state g old) → KeepsCommit (begun g old) (state g last) → IsRolledBack (state g last) (state g end)
      → Shows layout (state g old) c → Shows layout (state g end) c
  undone_shows layout c clean kept rolled shows = record {
    outside = rolled.autocommit;
    holds = λ _ live.
        let mid = rolled.was_open live in
        let gone = rolled.undone live in
        let was = shows.holds clean (kept.was_open mid) in
        let now : (state g end).now ≡ (state g old).now = gone.0 ∙ kept.committed mid ∙ sym was.1 in
        (subst (λ (d : Database). Holds layout d c) (sym now) was.0, gone.0 ∙ sym gone.1);
  }

  -- a transaction that commits nothing
  pub through : Survives (begun g old) (state g last) (λ _. ⊥) → Survives (state g last) (state g end) (λ _. ⊥) → Survives (state g old) (state g end) (λ _. ⊥)
  through s e = survives_begin g old (state g end) (λ _. ⊥) (survives_then (begun g old) (state g last) (state g end) (λ _. ⊥) (λ _. ⊥) (λ _. ⊥) (λ _ _ none. none) (λ _ _ none. none) s e)

  -- a commit that fails undoes the transaction
  pub rolled_back : (e : Error) → IsTrue (state g last).in_transaction → FailsToCommit (state g last) (state g end) e → IsRolledBack (state g last) (state g end)
  rolled_back e inside (inl fails) = fails.3
  rolled_back e inside (inr late) = absurd (let a = inside in let b = late.1 in cc)

  -- a commit that failed committed nothing, where the connection is open still: a stop leaves the
  -- last commit alone
  pub open_spares : (P : Trees → Type 0) (new : State) → Survives (begun g old) (state g last) (λ _. ⊥) → (HasCleanDisk (state g last) → KeepsCommit (begun g old) (state g last))
      → Survives (state g last) (state g end) P → (HasCleanDisk (state g end) → IsRolledBack (state g last) (state g end))
      → Survives (state g end) new (λ _. ⊥) → (HasCleanDisk new → IsTrue (state g end).is_open)
      → ((db : Trees) → IsTrue (state g end).is_open → (state g end).may_leave db → db ≡ (state g end).committed.trees)
      → (IsTrue (state g old).is_open → (state g old).may_leave (state g old).committed.trees)
      → Survives (state g old) new (λ _. ⊥)
  open_spares P new s kept e rolled more live settled stays =
      let first : Survives (begun g old) (state g end) P = survives_then (begun g old) (state g last) (state g end) (λ _. ⊥) P P (λ _ db none. absurd none) (λ _ db p. p) s e in
      let all : Survives (state g old) new P = and_then P (state g old) (state g end) new (survives_begin g old (state g end) P first) more in
      record {
        clean = all.clean;
        shield = all.shield;
        counts = all.counts;
        limit = all.limit;
        closes = all.closes;
        crash = λ clean db may. (let mid : HasCleanDisk (state g end) = omega (arith, more.clean, clean) in
            let late : HasCleanDisk (state g last) = omega (arith, e.clean, mid) in
            let back = rolled mid in
            let open_ = live clean in
            let was = back.was_open open_ in
            let there : (state g end).may_leave db = elim (more.crash clean db may) [ inl before ↦ before | inr none ↦ absurd none ] in
            let trees : (state g end).committed.trees ≡ (state g old).committed.trees = ap (λ (d : Database). d.trees) ((back.undone open_).1 ∙ (kept late).committed was) in
            inl (subst (λ t. (state g old).may_leave t) (sym (settled db open_ there ∙ trees)) (stays ((kept late).was_open was))));
      }

-- ---- A transaction's end. `old` is the connection before the transaction, `first` inside it, and
-- `last` before its end.

-- the effect of the steps inside, which committed nothing
pub record Worked {S : Type 0} (g : store.Ghosts S) (old last : Held S) (does : State → State → Type 0) : Type 0 where
  pub value : HasCleanDisk (state g last) → does (begun g old) (state g last)
  pub inside : HasCleanDisk (state g last) → IsTrue (state g last).is_open × IsTrue (state g last).in_transaction
  pub kept : HasCleanDisk (state g last) → KeepsCommit (begun g old) (state g last)
  pub spares : Survives (begun g old) (state g last) (λ _. ⊥)

-- the clauses of the call that made the steps, for the connection that the transaction began with
pub worked : {S : Type 0} (g : store.Ghosts S) (old first last : Held S) (does : State → State → Type 0) → first ≡ record old { in_transaction = true }
    → (HasCleanDisk (state g last) → IsTrue (state g first).in_transaction → does (state g first) (state g last))
    → (HasCleanDisk (state g last) → IsTrue (state g first).in_transaction → IsTrue (state g last).is_open × IsTrue (state g last).in_transaction)
    → CommitsNothing g first last → Spares g first last → Worked g old last does
worked {S} g old first last does is value inside kept spares = record {
  value = λ clean. subst (λ (x : Held S). HasCleanDisk (state g last) → IsTrue (state g x).in_transaction → does (state g x) (state g last)) is value clean refl;
  inside = λ clean. subst (λ (x : Held S). HasCleanDisk (state g last) → IsTrue (state g x).in_transaction → IsTrue (state g last).is_open × IsTrue (state g last).in_transaction) is inside clean refl;
  kept = λ clean. subst (λ (x : Held S). CommitsNothing g x last) is kept clean refl;
  spares = subst (λ (x : Held S). Spares g x last) is spares;
}

-- a stop in the commit leaves what it left before, or what the steps made
pub leaves_made : {S : Type 0} (g : store.Ghosts S) (old last end : Held S) (does : State → State → Type 0) (P : Trees → Type 0) → Worked g old last does
    → Survives (state g last) (state g end) (λ db. db ≡ (state g last).now.trees) → (HasCleanDisk (state g last) → P (state g last).now.trees)
    → Survives (state g old) (state g end) P
leaves_made g old last end does P did stops made = survives_then (state g old) (state g last) (state g end) (λ _. ⊥) (λ db. db ≡ (state g last).now.trees) P
    (λ _ db none. absurd none)
    (λ clean db is. subst P (sym is) (made (omega (arith, stops.clean, clean))))
    (survives_begin g old (state g last) (λ _. ⊥) did.spares) stops

-- The commit failed, and the connection was asked whether it is open still. `mid` is the connection
-- after the commit, and `end` the same as the caller has it.
module _ {S : Type 0} (g : store.Ghosts S) (old last mid end new : Held S) (does : State → State → Type 0) (e : Error) (did : Worked g old last does) (same : mid ≡ end)
    (stops : Survives (state g last) (state g mid) (λ db. db ≡ (state g last).now.trees))
    (fails : HasCleanDisk (state g mid) → FailsToCommit (state g last) (state g mid) e) (asked : Spares g end new) where
  ends : Survives (state g last) (state g end) (λ db. db ≡ (state g last).now.trees)
  ends = subst (λ (x : Held S). Survives (state g last) (state g x) (λ db. db ≡ (state g last).now.trees)) same stops

  undoes : HasCleanDisk (state g end) → IsRolledBack (state g last) (state g end)
  undoes clean = rolled_back g old last end e (did.inside (omega (arith, ends.clean, clean))).1
      (subst (λ (x : Held S). HasCleanDisk (state g x) → FailsToCommit (state g last) (state g x) e) same fails clean)

  -- a stop leaves what it left before, or what the steps made
  pub failed_leaves : (P : Trees → Type 0) → (HasCleanDisk (state g last) → P (state g last).now.trees) → Survives (state g old) (state g new) P
  failed_leaves P made = and_then P (state g old) (state g end) (state g new) (leaves_made g old last end does P did ends made) asked

  module _ (unchanged : HasCleanDisk (state g new) → IsUnchanged (state g end) (state g new)) where
    -- it is open, and shows what it showed before the transaction
    pub failed_shows : (layout : Layout) (c : Contents) → HasCleanDisk (state g new) → Shows layout (state g old) c → Shows layout (state g new) c
    failed_shows layout c clean shows =
        let late : HasCleanDisk (state g end) = omega (arith, asked.clean, clean) in
        let before : HasCleanDisk (state g last) = omega (arith, ends.clean, late) in
        unchanged_shows layout c (state g end) (state g new) late (unchanged clean)
        (undone_shows g old last end layout c (omega (arith, did.spares.clean, before)) (did.kept before) (undoes late) shows)

    -- it is open, and nothing was committed
    pub failed_spares : ((db : Trees) → IsTrue (state g end).is_open → (state g end).may_leave db → db ≡ (state g end).committed.trees)
        → (IsTrue (state g old).is_open → (state g old).may_leave (state g old).committed.trees) → Spares g old new
    failed_spares settled stays = open_spares g old last end (λ db. db ≡ (state g last).now.trees) (state g new) did.spares did.kept ends undoes asked
        (λ clean. (unchanged clean).0.was_open) settled stays
