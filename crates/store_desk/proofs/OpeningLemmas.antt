-- The step from the answer of the query for the desk's row to the tables of a history.
use Rattle.std.proofs.Common.{◌≡◌, inl, inr, ℕ, pos, List, [], refl, sym, subst, ◌∙◌, arith, IsTrue, true, false, codes, Result, Ok}
use Rattle.std.specs.Prelude.{is_some}
use Rattle.std.proofs.lemmas.List.Sorted.{IsPermutation-sym, IsPermutation-trans}
use Rattle.std.specs.List.Sorted.{IsPermutation}
use Rattle.sqlite.proofs.Callers.{one_permutation}
use Rattle.sqlite.specs.declared.error.Error.{Error}
use Rattle.sqlite.specs.declared.error.Error.TheVariants.{SqlInputError}
use Rattle.sqlite.specs.Store as store
use Rattle.sqlite.specs.Effect.{Database}
use Rattle.sqlite.specs.Held.{Held, state}
use Rattle.sqlite.specs.Given.{IsPlain}
use Rattle.sqlite.specs.Order.{Row}
use Rattle.sqlite.specs.Schema.{Schema}
use Rattle.sqlite.specs.State.{State, HasCleanDisk, IsNotRun, IsRolledBack, IsUnchanged, KeepsCommit, Survives, store_error}
use Rattle.sqlite_trees.specs.declared.error.StoreError.{StoreError}
use Rattle.sqlite_trees.specs.declared.error.StoreError.TheVariants.{OutOfMemory, Io, Corrupt, Full, Broken, Unstorable}
use Rattle.sqlite_resolve.specs.declared.error.CompileError.{CompileError}
use Rattle.sqlite_schema.specs.Names.{same_name, table_named}
use Rattle.store_sql.specs.Contents.{Holds}
use Rattle.store_sql.specs.Layouts.{Fits, Layout, Others, beside}
use Rattle.store_sql.proofs.LayoutLemmas.{is_alone}
use Rattle.store_sql.specs.Effects.{IsSelected}
use Rattle.store_sql.specs.Meanings.{SelectsRows}
use Rattle.store_sql.proofs.ReadLemmas.{finds_rows}
use Rattle.base.specs.declared.refusal.Refusal.{Refusal}
use Rattle.base.specs.declared.refusal.Refusal.TheVariants as refusals
use Rattle.store_sql.specs.States.{Leaves}
use Rattle.sqlite.specs.Tree.{Trees}
use Rattle.store_schema.specs.Columns.{by_first, columns_after, names_of}
use Rattle.store_schema.specs.Tables.{desk, desk_schema, first_schema}
use Rattle.store_schema.specs.declared.selecting.TheConstants.{SELECT_DESK}
use Rattle.store_schema.proofs.SelectFacts.{select_desk, select_first_desk}
use Rattle.store_reads.specs.Own.{ReadsAs, ReadsAsNone, ReadsBy, own_columns}
use Rattle.store_reads.specs.declared.desk_row.OwnRow.{OwnRow}
use Rattle.store_desk.specs.Rows.{AreBy, AreSelected}
use Rattle.store_desk.specs.Steps.{AnswersRow, AreShownAs, FindsNone, FindsOther, IsDeskLayout, IsOwnOf, LacksRow, RefusesColumns, RefusesText, ShowsRows, TellsInside, TellsOutside}
use Rattle.store_desk.proofs.VersionLemmas.{ShowsNone, ShowsOther, one_own}

pub unchanged_keeps : (old new : State) → IsUnchanged old new → KeepsCommit old new
unchanged_keeps old new same = record { was_open = λ _. same.0.was_open; committed = λ _. same.0.committed_is }

pub not_run_keeps : (old new : State) (sql : List ℕ) (params : Row) (e : Error) → IsNotRun old new sql params e → KeepsCommit old new
unfolding IsNotRun
not_run_keeps old new sql params e (inl h) = unchanged_keeps old new h.1
not_run_keeps old new sql params e (inr h) = record { was_open = λ o. h.3.was_open o; committed = λ o. (h.3.undone o).1 }

no_text : (cause : StoreError) (fault : CompileError) → store_error cause ≡ SqlInputError fault → ⊥
no_text OutOfMemory fault is = cc
no_text Io fault is = cc
no_text Corrupt fault is = cc
no_text Full fault is = cc
no_text Broken fault is = cc
no_text Unstorable fault is = cc

-- the query selects the desk's row from tables of either version
asks_for_desk : (layout : Layout) → IsDeskLayout layout → SelectsRows layout 0 desk SELECT_DESK.now [] (by_first 1 desk) (columns_after 1 desk) (names_of desk)
asks_for_desk layout (inl first) = subst (λ l. SelectsRows l 0 desk SELECT_DESK.now [] (by_first 1 desk) (columns_after 1 desk) (names_of desk)) (sym first) select_first_desk
asks_for_desk layout (inr second) = subst (λ l. SelectsRows l 0 desk SELECT_DESK.now [] (by_first 1 desk) (columns_after 1 desk) (names_of desk)) (sym second) select_desk

-- both have a table `desk`
named_first : is_some (table_named first_schema (codes "desk")) ≡ true
unfolding same_name
named_first = refl

named_second : (others : Others) → is_some (table_named (beside desk_schema others) (codes "desk")) ≡ true
unfolding same_name
named_second others = refl

-- so they lack no row
pub lacks_none : (layout : Layout) (schema : Schema) → IsDeskLayout layout → Fits layout schema → LacksRow schema → ⊥
lacks_none layout schema (inl first) fits (inl unnamed) =
    let is = is_alone first_schema schema (subst (λ l. Fits l schema) first fits) in
    let none : is_some (table_named first_schema (codes "desk")) ≡ false = subst (λ s. is_some (table_named s (codes "desk")) ≡ false) is unnamed in
    let clash = sym named_first ∙ none in cc
lacks_none layout schema (inr second) fits (inl unnamed) =
    let it = subst (λ l. Fits l schema) second fits in
    let none : is_some (table_named (beside desk_schema it.others) (codes "desk")) ≡ false = subst (λ s. is_some (table_named s (codes "desk")) ≡ false) it.is unnamed in
    let clash = sym (named_second it.others) ∙ none in cc
lacks_none layout schema of_desk fits (inr (fault, bad)) = subst IsPlain bad (asks_for_desk layout of_desk schema fits).plain

-- where the text isn't understood, the open store lacks the row
pub no_text_there : (old new : State) (e : Error) → IsNotRun old new SELECT_DESK.now [] e → RefusesText e → IsTrue old.is_open × LacksRow old.now.schema
unfolding IsNotRun
no_text_there old new e (inl (inl (fault, bad, is), same)) text = (same.0.was_open, inr (fault, bad))
no_text_there old new e (inl (inr (c, is, inl (long, many)), same)) text = absurd (let a = sym many ∙ text.1 in cc)
no_text_there old new e (inl (inr (c, is, inr (inl (few, count))), same)) text = absurd (let a = sym count ∙ text.1 in cc)
no_text_there old new e (inl (inr (c, is, inr (inr (formats, clock))), same)) text = absurd (let a = sym clock ∙ text.1 in cc)
no_text_there old new e (inr h) text = absurd (no_text h.0 text.0 (sym h.1 ∙ text.1))

-- where the columns are refused because there is no desk, the store is open, and lacks the row
pub open_there : (s : State) (refusal : Refusal) → RefusesColumns s refusal → refusal ≡ refusals.NotADesk → IsTrue s.is_open
open_there s refusal (inl (inl memory)) is = absurd (let e = sym memory ∙ is in cc)
open_there s refusal (inl (inr store)) is = absurd (let e = sym store ∙ is in cc)
open_there s refusal (inr told) is = told.1

pub lacks_there : (s : State) (refusal : Refusal) → RefusesColumns s refusal → refusal ≡ refusals.NotADesk → LacksRow s.now.schema
lacks_there s refusal (inl (inl memory)) is = absurd (let e = sym memory ∙ is in cc)
lacks_there s refusal (inl (inr store)) is = absurd (let e = sym store ∙ is in cc)
lacks_there s refusal (inr told) is = told.2

-- where one answer reads as a desk, each does
read_alike : (rows answer : List Row) (own : OwnRow) → IsSelected desk [] (by_first 1 desk) (columns_after 1 desk) [] rows answer → AreBy rows own → ReadsBy answer own
read_alike rows answer own it other =
    let reads = other.2 in
    let same = IsPermutation-trans _ _ _ (IsPermutation-sym _ _ other.1.same) it.same in
    (reads.0, reads.1, one_permutation (own_columns own.owner own.version own.stamp) answer (subst (λ l. IsPermutation l answer) reads.2 same))

module _ {S : Type 0} (g : store.Ghosts S) (conn : Held S) (clean : HasCleanDisk (state g conn)) (live : IsTrue (state g conn).is_open) where
  -- the answer of the query is one over the rows of a desk's tables
  pub answered : (told : List Row → Type 0) → AnswersRow g conn told → ShowsRows (state g conn) (λ _ rows. AreSelected rows told)
  answered told it layout c rows of_desk shows has =
      let shown = it.3 in (
        shown.0,
        finds_rows SELECT_DESK.now [] (state g it.0) (state g it.1) shown.0 layout 0 desk [] (by_first 1 desk) (columns_after 1 desk) (names_of desk) (asks_for_desk layout of_desk) shown.1 c rows
            (subst (λ (d : Database). Holds layout d c) (sym it.2) (shows.holds clean live).0) has,
        shown.2,
      )

  -- what was read is that of each history that is shown
  pub own_of : (own : OwnRow) → AnswersRow g conn (λ answer. ReadsBy answer own) → IsOwnOf (state g conn) own
  own_of own it = one_own (state g conn) own (answered (λ answer. ReadsBy answer own) it)

-- the version of what was read
pub version_of : {S : Type 0} (g : store.Ghosts S) (conn : Held S) (own : OwnRow) → AnswersRow g conn (λ answer. ReadsBy answer own) → AnswersRow g conn (λ answer. ReadsAs answer own.version)
version_of g conn own it = let shown = it.3 in (it.0, it.1, it.2, (shown.0, shown.1, (own.owner, own.stamp, shown.2)))

-- what was read is the row of a desk of this version, by the rows of a desk's tables
pub read_as : {S : Type 0} (g : store.Ghosts S) (conn : Held S) (own : OwnRow) → HasCleanDisk (state g conn) → TellsOutside g conn (Ok own) → AreShownAs (state g conn) own.version
read_as g conn own clean told = answered g conn clean told.told.is_open (λ answer. ReadsAs answer own.version) (version_of g conn own told.told.read)

-- a desk of another version, and no desk, by the rows of a desk's tables
pub other_shown : {S : Type 0} (g : store.Ghosts S) (conn : Held S) → HasCleanDisk (state g conn) → FindsOther g conn → ShowsOther (state g conn)
other_shown g conn clean it = let found = it.2 in (found.0, found.1, found.2, answered g conn clean it.0 (λ answer. ReadsAs answer found.0) found.3)

pub none_shown : {S : Type 0} (g : store.Ghosts S) (conn : Held S) → HasCleanDisk (state g conn) → FindsNone g conn → ShowsNone (state g conn)
none_shown g conn clean (live, inl (inl lacks)) =
    inl (λ layout c rows of_desk shows has version other. lacks_none layout (state g conn).now.schema of_desk (shows.holds clean live).0.fits lacks)
none_shown g conn clean (live, inl (inr it)) =
    inl (λ layout c rows of_desk shows has version other.
    let here = answered g conn clean live ReadsAsNone it layout c rows of_desk shows has in
    let reads = other.2 in
    here.2 version (reads.0, reads.1, read_alike rows here.0 (record { version = version; owner = reads.0; stamp = reads.1 }) here.1 (other.0, other.1, reads.2)))
none_shown g conn clean (live, inr taken) =
    inr (λ layout c rows of_desk shows has. (
      answered g conn clean live (λ answer. ReadsAs answer (pos 1)) taken.0 layout c rows of_desk shows has,
      ((state g conn).now.schema, (shows.holds clean live).0.fits, taken.1),
    ))

-- what was read inside a transaction that begins on the connection
pub told_before : {S : Type 0} (g : store.Ghosts S) (old : Held S) (result : Result OwnRow Refusal) → TellsInside g (record old { in_transaction = true }) result → TellsInside g old result
told_before g old result told = record { is_open = told.is_open; read = told.read; unread = told.unread }

-- a rolled back transaction that committed nothing leaves the schema
pub same_schema : (old begun last end : State) → begun.committed ≡ old.committed → (IsTrue begun.is_open → IsTrue old.is_open) → (IsTrue old.is_open → old.now ≡ old.committed)
    → KeepsCommit begun last → IsRolledBack last end → IsTrue end.is_open → end.now.schema ≡ old.now.schema
same_schema old begun last end same opened settled kept rolled live =
    let mid = rolled.was_open live in
    let now : end.now ≡ old.now = (rolled.undone live).0 ∙ kept.committed mid ∙ same ∙ sym (settled (opened (kept.was_open mid))) in
    subst (λ (d : Database). d.schema ≡ old.now.schema) (sym now) refl

-- a stop leaves what it left before
pub still_leaves : (P : Trees → Type 0) (old new : State) → Survives old new (λ _. ⊥) → Leaves old P → Leaves new P
still_leaves P old new spared left clean db may = elim (spared.crash clean db may) [
  | inl was ↦ left (omega (arith, spared.clean, clean)) db was
  | inr none ↦ absurd none
]
