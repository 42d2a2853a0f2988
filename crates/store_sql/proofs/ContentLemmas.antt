-- The step from a change of one table's tree to the contents of all tables.
use Rattle.std.proofs.Common.{◌≡◌, ◌≢◌, ℕ, zero, suc, ◌==◌, not, List, [], ◌∷◌, ◌++◌, map, slice_get, true, Some, sym, subst, subst₂, ◌∙◌}
use Rattle.std.specs.List.{AllByRecursion}
use Rattle.std.specs.List.Sorted.{IsPermutation}
use Rattle.std.proofs.lemmas.Bool.{eq-eqb, and_parts}
use Rattle.sqlite.specs.Effect.{Database, IsDatabase}
use Rattle.sqlite.specs.Order.{Row}
use Rattle.sqlite.specs.Schema.{Schema}
use Rattle.sqlite.specs.State as states
use Rattle.sqlite.specs.State.{State, KeepsCommit}
use Rattle.sqlite.specs.Table.{Table}
use Rattle.sqlite.specs.Tree.{Trees}
use Rattle.sqlite_catalog.specs.Listing.{AreListed}
use Rattle.sqlite_trees.specs.Objects.{catalog_tree}
use Rattle.store_sql.specs.Contents.{Contents, HoldRows, IsDatabaseIn, IsIn, IsKeyed, seen, change_at}
use Rattle.store_sql.specs.Layouts.{Fits, Layout, are_other, is_apart}
use Rattle.store_sql.specs.Meanings.{StandsAt}
use Rattle.store_sql.specs.States.{Moves}

-- a database is one of its own schema
pub database_of : (db : Database) → IsDatabase db → IsDatabaseIn db.schema db.trees
unfolding IsDatabaseIn
database_of db sound = sound

-- its catalog lists that schema
pub catalog_of : (schema : Schema) (db : Trees) → IsDatabaseIn schema db → AreListed (db catalog_tree) schema
unfolding IsDatabaseIn
catalog_of schema db sound = sound.lists.listed

differs : (a b : ℕ) → not (a == b) ≡ true → a ≢ b
differs a b h e = let same = eq-eqb a b e in let k : not true ≡ true = subst (λ x. not x ≡ true) same h in cc

-- a table whose tree stays holds what it held
same_tree : (t : Table) (rows : List Row) (old new : Trees) → new t.tree ≡ old t.tree → IsIn old t rows → IsIn new t rows
same_tree t rows old new e h = record { same = subst (λ l. IsPermutation rows (map (seen t) l)) (sym e) h.same; keyed = subst IsKeyed (sym e) h.keyed }

all_stay : (tables : List Table) (c : Contents) (tree : ℕ) (old new : Trees) → are_other tree tables ≡ true
    → AllByRecursion (λ (t : Table). t.tree ≢ tree → new t.tree ≡ old t.tree) tables → HoldRows old tables c → HoldRows new tables c
all_stay [] [] tree old new other same h = h
all_stay [] (rows ∷ c) tree old new other same h = h
all_stay (t ∷ ts) [] tree old new other same h = h
all_stay (t ∷ ts) (rows ∷ c) tree old new other same h =
    let parts = and_parts _ _ other in (
      same_tree t rows old new (same.0 (differs t.tree tree parts.0)) h.0,
      all_stay ts c tree old new parts.1 same.1 h.1,
    )

one_changes : (tables : List Table) (c : Contents) (at : ℕ) (table : Table) (change : List Row → List Row) (old new : Trees)
    → slice_get tables at ≡ Some table → is_apart at table.tree tables ≡ true
    → AllByRecursion (λ (t : Table). t.tree ≢ table.tree → new t.tree ≡ old t.tree) tables
    → ((rows : List Row) → IsIn old table rows → IsIn new table (change rows))
    → HoldRows old tables c → HoldRows new tables (change_at at change c)
one_changes [] [] at table change old new is apart same step h = absurd cc
one_changes [] (rows ∷ c) at table change old new is apart same step h = absurd h
one_changes (t ∷ ts) [] at table change old new is apart same step h = absurd h
one_changes (t ∷ ts) (rows ∷ c) zero table change old new is apart same step h =
    let it : t ≡ table = (let e = is in cc) in (
      subst (λ (x : Table). IsIn new x (change rows)) (sym it) (step rows (subst (λ (x : Table). IsIn old x rows) it h.0)),
      all_stay ts c table.tree old new apart same.1 h.1,
    )
one_changes (t ∷ ts) (rows ∷ c) (suc at) table change old new is apart same step h =
    let parts = and_parts _ _ apart in (
      same_tree t rows old new (same.0 (differs t.tree table.tree parts.0)) h.0,
      one_changes ts c at table change old new is parts.1 same.1 step h.1,
    )

-- the rows that the trees hold for the table at this place
pub rows_at : (tables : List Table) (c : Contents) (at : ℕ) (table : Table) (rows : List Row) (db : Trees)
    → slice_get tables at ≡ Some table → slice_get c at ≡ Some rows → HoldRows db tables c → IsIn db table rows
rows_at [] [] at table rows db is has h = absurd cc
rows_at [] (r ∷ c) at table rows db is has h = absurd h
rows_at (t ∷ ts) [] at table rows db is has h = absurd h
rows_at (t ∷ ts) (r ∷ c) zero table rows db is has h =
    let one : t ≡ table = (let e = is in cc) in
    let two : r ≡ rows = (let e = has in cc) in
    subst₂ (λ (x : Table) l. IsIn db x l) one two h.0
rows_at (t ∷ ts) (r ∷ c) (suc at) table rows db is has h = rows_at ts c at table rows db is has h.1

-- a statement's step: this table's rows change, and no other table's
pub record Steps (table : Table) (change : List Row → List Row) (old new : Database) : Type 0 where
  pub listed : new.schema ≡ old.schema
  pub sound : IsDatabaseIn new.schema new.trees
  pub tables : AllByRecursion (λ (t : Table). t.tree ≢ table.tree → new.trees t.tree ≡ old.trees t.tree) old.schema.tables
  pub rows : (rows : List Row) → IsIn old.trees table rows → IsIn new.trees table (change rows)

front : {X : Type 0} (P : X → Type 0) (xs ys : List X) → AllByRecursion P (xs ++ ys) → AllByRecursion P xs
front P [] ys all = tt
front P (x ∷ xs) ys all = (all.0, front P xs ys all.1)

pub moves : (layout : Layout) (at : ℕ) (table : Table) → StandsAt layout.schema at table → (change : List Row → List Row) (old new : State) → states.Shows old new new.now old.committed true
    → (Fits layout old.now.schema → Steps table change old.now new.now) → Moves layout (change_at at change) old new
moves layout at table stands change old new shown steps = record {
  is_open = λ _. shown.is_open;
  inside = shown.mode;
  kept = record { was_open = λ _. shown.was_open; committed = λ _. shown.committed_is };
  value = λ c sees.
      let fits = sees.holds.fits in
      let it = steps fits in
      let same = λ (t : Table). t.tree ≢ table.tree → new.now.trees t.tree ≡ old.now.trees t.tree in
      let first : AllByRecursion same layout.schema.tables = front same layout.schema.tables fits.others.tables (subst (λ (s : Schema). AllByRecursion same s.tables) fits.is it.tables) in
      record {
        inside = shown.mode;
        holds = record {
          fits = subst (Fits layout) (sym it.listed) fits;
          sound = it.sound;
          rows = one_changes layout.schema.tables c at table change old.now.trees new.now.trees stands.place stands.apart first it.rows sees.holds.rows;
        };
      };
}

-- a step that ran inside a transaction commits nothing
pub ran_keeps : (old new : State) → states.Shows old new new.now old.committed true → KeepsCommit old new
ran_keeps old new shown = record { was_open = λ _. shown.was_open; committed = λ _. shown.committed_is }

pub keeps_then : (first mid new : State) → KeepsCommit first mid → KeepsCommit mid new → KeepsCommit first new
keeps_then first mid new a b = record { was_open = λ o. a.was_open (b.was_open o); committed = λ o. b.committed o ∙ a.committed (b.was_open o) }
