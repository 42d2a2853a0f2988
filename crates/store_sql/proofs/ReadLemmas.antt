-- The answer of SELECT from the contents, and the effect of a query inside a transaction.
use Rattle.std.proofs.Common.{◌≡◌, ◌⊎◌, inl, inr, ℕ, List, [], ◌∷◌, ◌++◌, slice_get, Option, Some, None, refl, sym, subst, ◌∙◌, IsTrue, true, Ok}
use Rattle.std.specs.List.Sorted.{IsPermutation}
use Rattle.std.proofs.lemmas.List.Sorted.{IsPermutation-map, IsPermutation-trans}
use Rattle.sqlite.proofs.Callers.{IsPlain, reads_as, unchanged_then}
use Rattle.sqlite.specs.Clock.{timed}
use Rattle.sqlite.specs.declared.error.Error.{Error}
use Rattle.sqlite.specs.declared.types.Value.TheVariants.{Null}
use Rattle.sqlite.specs.Effect.{Database}
use Rattle.sqlite.specs.Listing.{understood, reads_listing, IsSourceOf}
use Rattle.sqlite.specs.Order.{Row}
use Rattle.sqlite.specs.State as states
use Rattle.sqlite.specs.State.{State, IsUnchanged, IsRolledBack, Shown, ShowsRows, FailsToQuery, FailsToShow, IsNotRun, KeepsCommit, IsTooLate}
use Rattle.sqlite.specs.Table.{Table}
use Rattle.sqlite.specs.Term.{Term}
use Rattle.sqlite_resolve.specs.declared.compiled.Compiled.{Compiled}
use Rattle.sqlite_schema.specs.declared.command.Returning.{Returning}
use Rattle.sqlite_trees.proofs.ListLemmas.{IsPermutation-filter}
use Rattle.sqlite_value.specs.declared.keys.Key.{Key}
use Rattle.store_sql.specs.Contents.{Contents, Holds}
use Rattle.store_sql.specs.Effects.{Selects, Streams, TakesAll, IsSelected, passes, shown_of}
use Rattle.store_sql.specs.Layouts.{Layout}
use Rattle.store_sql.specs.Meanings.{IsPlainIn, SelectsRows}
use Rattle.store_sql.specs.Queries.{meets, projected, keys_of}
use Rattle.store_sql.specs.States.{Moves}
use Rattle.store_sql.proofs.ContentLemmas.{rows_at}
use Rattle.store_sql.proofs.LayoutLemmas.{fits_itself}
use Rattle.store_sql.proofs.QueryLemmas.{selected}
use Rattle.store_sql.proofs.RowLemmas.{picked}

pub shown_inside : (sql : List ℕ) (params : Row) (old new : State) (rows : List Row) → IsTrue old.in_transaction → Shown sql params old new rows → states.Shows old new new.now old.committed true
unfolding Shown
shown_inside sql params old new rows inside h = go h.0 (timed params h.0.formats h.1.now) h.0.returning h.2
  where
    go : (c : Compiled) (p : Row) (o : Option Returning) → ShowsRows old new sql c p rows o → states.Shows old new new.now old.committed true
    go c p None h = record { was_open = h.3.0.was_open; is_open = h.3.0.is_open; now_is = refl; committed_is = h.3.0.committed_is; mode = h.3.0.mode ∙ inside }
    go c p (Some what) h = record { was_open = h.1.shown.was_open; is_open = h.1.shown.is_open; now_is = refl; committed_is = rw inside at h.1.shown.committed_is; mode = h.1.shown.mode ∙ inside }

shown_same : (sql : List ℕ) (params : Row) (old new : State) (rows : List Row) → IsPlain (understood old.now.schema sql) → Shown sql params old new rows → IsUnchanged old new
unfolding Shown
shown_same sql params old new rows plain h =
    let none = (subst IsPlain h.1.is plain).0 in
    let full = timed params h.0.formats h.1.now in
    (subst (ShowsRows old new sql h.0 full rows) none h.2).3

pub failed_same : (sql : List ℕ) (params : Row) (old new : State) (e : Error) → FailsToQuery sql params old new e → IsUnchanged old new ⊎ IsRolledBack old new
unfolding FailsToQuery IsNotRun
failed_same sql params old new e (inl (inl h)) = inl h.1
failed_same sql params old new e (inl (inr h)) = inr h.3
failed_same sql params old new e (inr h) = go h.0 (timed params h.0.formats h.1.now) h.0.returning h.2
  where
    go : (c : Compiled) (p : Row) (o : Option Returning) → FailsToShow old new sql c p e o → IsUnchanged old new ⊎ IsRolledBack old new
    go c p None h = inl h.3
    go c p (Some what) (inl h) = inl h.1
    go c p (Some what) (inr h) = inr h.3

-- a step that changes nothing, or undoes the transaction, commits nothing
pub failed_keeps : (old new : State) → IsUnchanged old new ⊎ IsRolledBack old new → KeepsCommit old new
failed_keeps old new (inl h) = record { was_open = λ _. h.0.was_open; committed = λ _. h.0.committed_is }
failed_keeps old new (inr h) = record { was_open = h.was_open; committed = λ o. (h.undone o).1 }

pub failed_inside : (sql : List ℕ) (params : Row) (old new : State) (e : Error) → FailsToQuery sql params old new e ⊎ IsTooLate sql params old new e → KeepsCommit old new
failed_inside sql params old new e (inl h) = failed_keeps old new (failed_same sql params old new e h)
failed_inside sql params old new e (inr h) = failed_keeps old new (inl h.5)

-- a query inside a transaction commits nothing
pub shown_keeps : (sql : List ℕ) (params : Row) (old new : State) (rows : List Row) → IsTrue old.in_transaction → Shown sql params old new rows → KeepsCommit old new
shown_keeps sql params old new rows inside h = let s = shown_inside sql params old new rows inside h in record { was_open = λ _. s.was_open; committed = λ _. s.committed_is }

-- and where it is plain, changes nothing
pub stays : (layout : Layout) (text : List ℕ) (params : Row) (old new : State) (answer : List Row) → IsPlainIn layout text → IsTrue old.in_transaction → Shown text params old new answer
    → Moves layout (λ c. c) old new
stays layout text params old new answer plain inside h =
    let s = shown_inside text params old new answer inside h in
    record {
      is_open = λ _. s.is_open;
      inside = s.mode;
      kept = record { was_open = λ _. s.was_open; committed = λ _. s.committed_is };
      value = λ c sees.
          let same = shown_same text params old new answer (plain old.now.schema sees.holds.fits) h in
          record { inside = s.mode; holds = subst (λ (b : Database). Holds layout b c) (sym same.0.now_is) sees.holds };
    }

-- the answer, by the contents of the database, inside a transaction and outside
pub finds_rows : (text : List ℕ) (params : Row) (old new : State) (answer : List Row) (layout : Layout) (at : ℕ) (table : Table) (terms : List Term) (order : List (Term × Key)) (rest : List Term) (names : List (List ℕ))
    → SelectsRows layout at table text terms order rest names → Shown text params old new answer
    → (c : Contents) (rows : List Row) → Holds layout old.now c → slice_get c at ≡ Some rows → IsSelected table terms order rest params rows answer
finds_rows text params old new answer layout at table terms order rest names all h c rows held has =
    let means = all old.now.schema held.fits in
    let read = reads_as text params old new old.now.schema refl _ means.means means.plain means.unlisted answer h in
    let stored = old.now.trees table.tree in
    let it = selected table.tree terms order rest old.now.trees params answer (read.answer Null) in
    let tree = rows_at layout.schema.tables c at table rows old.now.trees (all layout.schema (fits_itself layout)).place has held.rows in
    let project = keys_of order ++ rest in
    let alike = picked table.key (meets terms params) (means.overlooks params) (projected project params) (means.passes_over params) stored tree.keyed.1 in
    record {
      same = IsPermutation-trans _ _ _ (IsPermutation-map (shown_of table project params) _ _ (IsPermutation-filter (passes table terms params) _ _ tree.same)) (subst (λ l. IsPermutation l answer) alike it.0);
      sorted = it.1;
    }

pub selects : (text : List ℕ) (params : Row) (old new : State) (answer : List Row) → IsTrue old.in_transaction → Shown text params old new answer → Selects text params old new answer
selects text params old new answer inside h layout at table terms order rest names means = (
  stays layout text params old new answer (λ schema fits. (means schema fits).plain) inside h,
  λ c rows sees has. finds_rows text params old new answer layout at table terms order rest names means h c rows sees.holds has,
)

-- ---- outside a transaction

-- an answer after a step that changed nothing
pub shown_after : (sql : List ℕ) (params : Row) (old mid new : State) (rows : List Row) → IsPlain (understood mid.now.schema sql) → IsUnchanged old mid → Shown sql params mid new rows → Shown sql params old new rows
unfolding Shown
shown_after sql params old mid new rows plain same h =
    let none = (subst IsPlain h.1.is plain).0 in
    let full = timed params h.0.formats h.1.now in
    let it = subst (ShowsRows mid new sql h.0 full rows) none h.2 in
    let now : mid.now ≡ old.now = same.0.now_is in (
      h.0,
      record { is = subst (λ (d : Database). understood d.schema sql ≡ Ok h.0) now h.1.is; whole = h.1.whole; given = h.1.given; now = h.1.now },
      subst (ShowsRows old new sql h.0 full rows) (sym none) (it.0, subst (λ (d : Database). IsSourceOf (reads_listing d.schema sql) d it.0) now it.1, it.2, unchanged_then old mid new same it.3),
    )

pub streams : (text : List ℕ) (params : Row) (old new : State) (answer : List Row) → Shown text params old new answer → Streams text params old new answer
streams text params old new answer h layout at table terms order rest names means fits = (
  shown_same text params old new answer (means old.now.schema fits).plain h,
  λ c rows held found. finds_rows text params old new answer layout at table terms order rest names means h c rows held found,
)

-- ---- handing over

-- one row more is handed over
pub takes_one_more : {T : Type 0} (takes : T → Row → T → Type 0) (first mid new : T) (rows : List Row) (row : Row) → TakesAll takes first rows mid → takes mid row new → TakesAll takes first (rows ++ row ∷ []) new
takes_one_more takes first mid new [] row h step = (new, subst (λ s. takes s row new) (sym h) step, refl)
takes_one_more takes first mid new (r ∷ rows) row h step = (h.0, h.1, takes_one_more takes h.0 mid new rows row h.2 step)
