-- The step from the making of a desk to the contents of the connection after it.
use Rattle.std.proofs.Common.{◌≡◌, ℕ, ◌+◌, zero-add, add-zero, Bool, true, false, not, List, [], ◌∷◌, ◌++◌, length, map, refl, sym, ap, ap₂, subst, ◌∙◌, IsTrue}
use Rattle.std.specs.Prelude.{⊤}
use Rattle.std.proofs.Math.Nat.{suc-add}
use Rattle.std.proofs.lemmas.Slice.Zip.{AllZip-long}
use Rattle.sqlite.specs.Order.{Row}
use Rattle.sqlite.specs.Schema.{Schema}
use Rattle.sqlite.specs.Store as store
use Rattle.sqlite.specs.Effect.{Database, IsDatabase}
use Rattle.sqlite.specs.Held.{Held, state}
use Rattle.sqlite.specs.State as states
use Rattle.sqlite.specs.State.{State, HasCleanDisk}
use Rattle.store_sql.specs.Contents.{Contents, Holds, IsIn, change_at, no_rows}
use Rattle.store_sql.specs.Effects.{CreatesAll}
use Rattle.store_sql.specs.Layouts.{Fits, Layout, alone}
use Rattle.store_sql.specs.Meanings.{MakeTables}
use Rattle.store_sql.specs.States.{Makes, Sees, Turns}
use Rattle.store_sql.proofs.CommitLemmas.{Worked}
use Rattle.store_sql.proofs.ContentLemmas.{database_of}
use Rattle.store_sql.proofs.LayoutLemmas.{fits_alone, holds_leading}
use Rattle.store_sql.proofs.StopLemmas.{tables_of}
use Rattle.store_sql.proofs.TableLemmas.{makes_then}
use Rattle.desk_history.specs.Tables.{tables}
use Rattle.store_schema.proofs.CreateFacts.{create_added, create_first}
use Rattle.store_schema.specs.Tables.{added_tables, defined, desk_layout, desk_schema, first_tables, no_schema}
use Rattle.store_schema.specs.declared.creating.TheConstants.{CREATE_ADDED_TABLES, CREATE_TABLES}
use Rattle.store_schema.specs.rows.Histories.{ShowsHistory, rows_of}
use Rattle.store_schema.specs.rows.Values.{desk_values, migrated_values}
use Rattle.store_writes.specs.Founding.{PutsBoth, PutsDesk, with_desk}
use Rattle.store_desk.specs.Founding.{Founded, FoundsBeside, HasFoundedBeside, with_all, with_first}
use Rattle.store_desk.specs.Steps.{MakesDesk}

-- names that aren't free are taken
pub are_taken : (taken free : Bool) → free ≡ not taken → free ≡ false → IsTrue taken
are_taken true free is out = refl
are_taken false free is out = absurd (let clash = sym is ∙ out in cc)

-- ---- beside other tables

-- a change of a table that comes after some others
change_beyond : (c d : Contents) (k : ℕ) (f : List Row → List Row) → change_at (length c + k) f (c ++ d) ≡ c ++ change_at k f d
change_beyond [] d k f = ap (λ n. change_at n f d) (zero-add k)
change_beyond (rows ∷ c) d k f = ap (λ n. change_at n f (rows ∷ c ++ d)) (suc-add (length c) k) ∙ ap (λ l. rows ∷ l) (change_beyond c d k f)

-- the rows of the fifteen tables, after those of the others
with_desk_is : (layout : Layout) (owner : List ℕ) (both : PutsBoth layout owner) (c : Contents) → both.own.at ≡ length c → both.own.row ≡ desk_values (tables owner []).desk
    → both.calls.at ≡ length c + 14 → both.calls.row ≡ migrated_values (record { id = 1; calls = 0 })
    → with_desk layout owner both (c ++ no_rows (map defined first_tables ++ map defined added_tables)) ≡ c ++ rows_of owner []
with_desk_is layout owner both c own_at own_row calls_at calls_row =
    let none : Contents = no_rows (map defined first_tables ++ map defined added_tables) in
    let own : Row = desk_values (tables owner []).desk in
    let noted : Row = migrated_values (record { id = 1; calls = 0 }) in
    let first : change_at both.own.at (λ rows. both.own.row ∷ rows) (c ++ none) ≡ c ++ change_at 0 (λ rows. own ∷ rows) none =
    ap₂ (λ n (r : Row). change_at n (λ rows. r ∷ rows) (c ++ none)) (own_at ∙ sym (add-zero (length c))) own_row ∙ change_beyond c none 0 (λ rows. own ∷ rows) in
    ap₂ (λ n (r : Row). change_at n (λ rows. r ∷ rows) (change_at both.own.at (λ rows. both.own.row ∷ rows) (c ++ none))) calls_at calls_row
    ∙ ap (change_at (length c + 14) (λ rows. noted ∷ rows)) first ∙ change_beyond c (change_at 0 (λ rows. own ∷ rows) none) 14 (λ rows. noted ∷ rows)

module _ (first mid late new : State) (owner : List ℕ) (twelve : CreatesAll (map (λ t. t.now) CREATE_TABLES) first mid)
    (three : CreatesAll (map (λ t. t.now) CREATE_ADDED_TABLES) mid late) where
  makes_all : (schema : Schema) → MakeTables schema (map defined first_tables) (map (λ t. t.now) CREATE_TABLES)
      → MakeTables (with_first schema) (map defined added_tables) (map (λ t. t.now) CREATE_ADDED_TABLES)
      → Makes first late schema (with_all schema) (map defined first_tables ++ map defined added_tables)
  makes_all schema a b =
      makes_then first mid late schema (with_first schema) (with_all schema) (map defined first_tables) (map defined added_tables)
      (twelve schema (map defined first_tables) a) (three (with_first schema) (map defined added_tables) b)

  founds_beside : PutsDesk owner late new → FoundsBeside first new owner
  founds_beside puts schema c allows holds =
      let made = makes_all schema allows.first allows.added in
      let size : length c ≡ length schema.tables = AllZip-long (IsIn first.now.trees) schema.tables c holds.rows in
      let sees = (puts (alone (with_all schema)) allows.puts).value (c ++ no_rows (map defined first_tables ++ map defined added_tables)) (record { inside = made.inside; holds = made.value c holds }) in
      subst (Holds (alone (with_all schema)) new.now)
      (with_desk_is (alone (with_all schema)) owner allows.puts c (allows.own_at ∙ sym size) allows.own_row (allows.calls_at ∙ ap (λ n. n + 14) (sym size)) allows.calls_row)
      sees.holds

  pub founds : Turns desk_layout (λ (_ : ⊤). no_rows desk_schema.tables) (λ _. rows_of owner []) late new → PutsDesk owner late new → MakesDesk first new owner
  founds put puts =
      let made = makes_all no_schema create_first create_added in
      record {
        is_open = λ o. put.is_open (made.is_open o);
        inside = put.inside;
        kept = record { was_open = λ o. made.kept.was_open (put.kept.was_open o); committed = λ o. put.kept.committed o ∙ made.kept.committed (put.kept.was_open o) };
        value = λ sound free. put.value tt (record {
          inside = made.inside;
          holds = holds_leading desk_schema late.now (no_rows desk_schema.tables) (made.value [] (record { fits = subst (Fits (alone no_schema)) (sym free) (fits_alone no_schema); sound = database_of first.now sound; rows = tt }));
        });
        beside = founds_beside puts;
      }

module _ {S : Type 0} (g : store.Ghosts S) (old last : Held S) (owner : List ℕ) (sound : IsTrue (state g old).is_open → IsDatabase (state g old).now)
    (did : Worked g old last (λ before after. MakesDesk before after owner)) where
  -- the tables made in a transaction, where the store was sound before it
  founded : HasCleanDisk (state g last) → (state g old).now.schema ≡ no_schema → Sees desk_layout (state g last) (rows_of owner [])
  founded late free = let made = did.value late in made.value (sound (made.kept.was_open (did.inside late).0)) free

  -- the trees that it is made in
  pub founded_trees : HasCleanDisk (state g last) → Founded (state g old) owner (state g last).now.trees
  founded_trees late = (
    λ free. tables_of desk_layout (state g last).now (rows_of owner []) (founded late free).holds,
    λ schema c allows holds. tables_of (alone (with_all schema)) (state g last).now (c ++ rows_of owner []) ((did.value late).beside schema c allows holds),
  )

  pub founded_beside : (end : Held S) → HasCleanDisk (state g last) → states.Shows (state g last) (state g end) (state g last).now (state g last).now false
      → HasFoundedBeside (state g old) (state g end) owner
  founded_beside end late done schema c allows holds = (
    subst (λ (d : Database). Holds (alone (with_all schema)) d (c ++ rows_of owner [])) (sym done.now_is) ((did.value late).beside schema c allows holds),
    done.now_is ∙ sym done.committed_is,
  )

  pub founded_shown : (end : Held S) → HasCleanDisk (state g last) → states.Shows (state g last) (state g end) (state g last).now (state g last).now false
      → IsTrue (state g end).is_open × ((state g old).now.schema ≡ no_schema → ShowsHistory (state g end) owner [])
  founded_shown end late done = (
    done.is_open,
    λ free. record {
      outside = done.mode;
      holds = λ _ _. (
        subst (λ (d : Database). Holds desk_layout d (rows_of owner [])) (sym done.now_is) (founded late free).holds,
        done.now_is ∙ sym done.committed_is,
      );
    },
  )
