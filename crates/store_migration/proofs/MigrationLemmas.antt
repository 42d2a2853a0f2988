-- The step from the work of the migration inside its transaction to the contents of the connection
-- after it, and after a stop.
use Rattle.std.proofs.Common.{◌≡◌, ℕ, List, length, map, false, refl, sym, subst, ◌∙◌, arith, IsTrue}
use Rattle.sqlite.specs.Store as store
use Rattle.sqlite.specs.Held.{Held, state}
use Rattle.sqlite.specs.State as states
use Rattle.sqlite.specs.Effect.{Database}
use Rattle.sqlite.specs.State.{State, HasCleanDisk}
use Rattle.desk_history.specs.Calls.{History}
use Rattle.desk_history.specs.Tables.{tables}
use Rattle.store_sql.specs.Contents.{Holds}
use Rattle.store_sql.specs.States.{Changes, Makes, Sees}
use Rattle.store_sql.proofs.CommitLemmas.{Worked}
use Rattle.store_sql.proofs.ContentLemmas.{keeps_then}
use Rattle.store_sql.proofs.LayoutLemmas.{holds_leading}
use Rattle.store_sql.proofs.StopLemmas.{tables_of}
use Rattle.store_schema.specs.Tables.{added_tables, defined, desk_layout, desk_schema, first_schema}
use Rattle.store_writes.specs.Steps.{with_migrated, with_version}
use Rattle.store_reads.specs.Reads.{ReadsTables}
use Rattle.store_schema.specs.rows.Contents.{contents}
use Rattle.store_schema.specs.rows.Histories.{ShowsFirst, ShowsHistory, first_rows_of, rows_of}
use Rattle.store_migration.specs.Migrations.{Migrates, TurnsFirst}
use Rattle.store_migration.proofs.HistoryLemmas.{as_first, migrated_tables}

-- the three tables are made, the calls are counted, their number is put in, and the version is set
pub turned : (old made told noted new : State) (n : ℕ) → Makes old made first_schema desk_schema (map defined added_tables) → ReadsTables (λ t. n ≡ length t.calls) made told
    → Changes desk_layout contents told noted (with_migrated n) → Changes desk_layout contents noted new (with_version 2) → TurnsFirst old new
turned old made told noted new n makes tells notes sets = record {
  is_open = λ o. sets.is_open (notes.is_open (tells.kept.is_open (makes.is_open o)));
  inside = sets.inside;
  kept = keeps_then old noted new (keeps_then old told noted (keeps_then old made told makes.kept tells.kept.kept) notes.kept) sets.kept;
  value = λ owner cs first sees.
      let t = as_first (tables owner cs) in
      let there : Sees desk_layout made (contents t) = record { inside = makes.inside; holds = holds_leading desk_schema made.now (contents t) (makes.value (first_rows_of owner cs) sees.holds) } in
      let end = sets.value (with_migrated n t) (notes.value t (tells.kept.value t there)) in
      subst (λ t. Sees desk_layout new (contents t)) (migrated_tables owner cs n first (tells.tells t there)) end;
}

module _ {S : Type 0} (g : store.Ghosts S) (old last : Held S) (did : Worked g old last TurnsFirst) where
  -- the contents inside the transaction, by those that the connection shows before it
  stands : HasCleanDisk (state g last) → (owner : List ℕ) (cs : History) → ShowsFirst (state g old) owner cs → Sees desk_layout (state g last) (rows_of owner cs)
  stands late owner cs shows =
      let turns = did.value late in
      turns.value owner cs shows.0 (record { inside = refl; holds = (shows.1.holds (omega (arith, did.spares.clean, late)) (turns.kept.was_open (did.inside late).0)).0 })

  -- the trees that hold them
  pub migrated_trees : HasCleanDisk (state g last) → Migrates (state g old) (state g last).now.trees
  migrated_trees late owner cs shows = tables_of desk_layout (state g last).now (rows_of owner cs) (stands late owner cs shows).holds

  pub migrated_shown : (end : Held S) → HasCleanDisk (state g last) → states.Shows (state g last) (state g end) (state g last).now (state g last).now false
      → IsTrue (state g end).is_open × ((owner : List ℕ) (cs : History) → ShowsFirst (state g old) owner cs → ShowsHistory (state g end) owner cs)
  migrated_shown end late done = (
    done.is_open,
    λ owner cs shows. record {
      outside = done.mode;
      holds = λ _ _. (
        subst (λ (d : Database). Holds desk_layout d (rows_of owner cs)) (sym done.now_is) (stands late owner cs shows).holds,
        done.now_is ∙ sym done.committed_is,
      );
    },
  )
