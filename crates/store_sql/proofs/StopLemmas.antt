-- The passage from the steps of a transaction to its commit.
use Rattle.std.proofs.Common.{true, false, refl, sym, subst, ◌∙◌, arith, IsTrue}
use Rattle.sqlite.specs.Store as store
use Rattle.sqlite.specs.Effect.{Database}
use Rattle.sqlite.specs.Held.{Held, state}
use Rattle.sqlite.specs.State as states
use Rattle.sqlite.specs.State.{State, HasCleanDisk, Survives, KeepsCommit}
use Rattle.store_sql.specs.Contents.{AreTablesOf, Contents, Holds}
use Rattle.store_sql.specs.Layouts.{Layout}
use Rattle.store_sql.specs.States.{Changes, Turns, Sees, Shows}

-- the trees of a database with these tables
pub tables_of : (layout : Layout) (db : Database) (c : Contents) → Holds layout db c → AreTablesOf layout db.trees c
tables_of layout db c holds = record {
  sound = record { schema = db.schema; fits = holds.fits; sound = holds.sound };
  rows = holds.rows;
}

-- the last commit of an open connection
pub committed_tables : (layout : Layout) (s : State) (c : Contents) → Shows layout s c → HasCleanDisk s → IsTrue s.is_open → AreTablesOf layout s.committed.trees c
committed_tables layout s c shows clean live =
    let it = shows.holds clean live in
    subst (λ (d : Database). AreTablesOf layout d.trees c) it.1 (tables_of layout s.now c it.0)

module _ {T : Type 0} (layout : Layout) (contents : T → Contents) where
  pub changes_then : (first mid new : State) (f h : T → T) → Changes layout contents first mid f → Changes layout contents mid new h → Changes layout contents first new (λ t. h (f t))
  changes_then first mid new f h w c = record {
    is_open = λ o. c.is_open (w.is_open o);
    inside = c.inside;
    kept = record { was_open = λ o. w.kept.was_open (c.kept.was_open o); committed = λ o. c.kept.committed o ∙ w.kept.committed (c.kept.was_open o) };
    value = λ t sees. c.value (f t) (w.value t sees);
  }

module _ {T : Type 0} (layout : Layout) (before : T → Contents) where
  pub turns_none : (s : State) → IsTrue s.in_transaction → Turns layout before before s s
  turns_none s inside = record { is_open = λ o. o; inside = inside; kept = record { was_open = λ o. o; committed = λ _. refl }; value = λ t sees. sees }

  pub turns_then : (middle after : T → Contents) (first mid new : State) → Turns layout before middle first mid → ((t : T) → Sees layout mid (middle t) → Sees layout new (after t))
      → (IsTrue mid.is_open → IsTrue new.is_open) → IsTrue new.in_transaction → KeepsCommit mid new → Turns layout before after first new
  turns_then middle after first mid new w value opens inside kept = record {
    is_open = λ o. opens (w.is_open o);
    inside = inside;
    kept = record { was_open = λ o. w.kept.was_open (kept.was_open o); committed = λ o. kept.committed o ∙ w.kept.committed (kept.was_open o) };
    value = λ t sees. value t (w.value t sees);
  }

module _ {T S : Type 0} (layout : Layout) (before after : T → Contents) (g : store.Ghosts S) (old last end : Held S) where
  abbrev begun : State
  begun = state g (record old { in_transaction = true })

  pub holds_all : (t : T) → Shows layout (state g old) (before t) → HasCleanDisk (state g old) → IsTrue (state g last).is_open → Turns layout before after begun (state g last)
      → Sees layout (state g last) (after t)
  holds_all t shows clean live w = w.value t (record { inside = refl; holds = (shows.holds clean (w.kept.was_open live)).0 })

  pub shows_all : Survives begun (state g last) (λ _. ⊥) → (HasCleanDisk (state g last) → IsTrue (state g last).is_open × Turns layout before after begun (state g last))
      → HasCleanDisk (state g last) → states.Shows (state g last) (state g end) (state g last).now (state g last).now false → (t : T) → Shows layout (state g old) (before t) → Shows layout (state g end) (after t)
  shows_all s w late e t shows =
      let it = w late in
      let sees = holds_all t shows (omega (arith, s.clean, late)) it.0 it.1 in
      record { outside = e.mode; holds = λ _ _. (subst (λ (d : Database). Holds layout d (after t)) (sym e.now_is) sees.holds, e.now_is ∙ sym e.committed_is) }
