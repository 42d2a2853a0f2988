-- CREATE TABLE.
use Rattle.std.proofs.Common.{refl, IsTrue, ◌≡◌, ℕ, None, List, [], ◌∷◌, ◌++◌, map, false, Ok, sym, ap, subst, ◌∙◌}
use Rattle.std.proofs.lemmas.List.{append-nil, append_assoc}
use Rattle.std.proofs.lemmas.List.Sorted.{IsPermutation-refl}
use Rattle.sqlite.specs.Table.{Table}
use Rattle.sqlite.specs.Tree.{Trees}
use Rattle.sqlite.specs.Schema.{Schema}
use Rattle.sqlite.specs.Command.TheVariants.{CreateTable}
use Rattle.sqlite.specs.Change.{created, next_tree}
use Rattle.sqlite_catalog.specs.Change.{KeepsRows}
use Rattle.sqlite.specs.Does.{Tally, lacks_sequence}
use Rattle.sqlite.specs.Effect.{Database, IsDatabase}
use Rattle.sqlite.specs.State.{State, Writes, ExecutesInside}
use Rattle.sqlite.proofs.Callers.{runs_as}
use Rattle.store_sql.specs.Contents.{Contents, Holds, HoldRows, IsKeyed, seen, no_rows}
use Rattle.store_sql.specs.Effects.{Creates, CreatesAll}
use Rattle.store_sql.specs.Layouts.{Fits, alone}
use Rattle.store_sql.specs.Meanings.{MakesTable, MakeTables, schema_after}
use Rattle.store_sql.specs.States.{Makes}
use Rattle.store_sql.proofs.ContentLemmas.{database_of}
use Rattle.store_sql.proofs.LayoutLemmas.{fits_alone, is_alone}
use Rattle.store_sql.proofs.PartLemmas.{went, same_value}
use Rattle.std.specs.List.Sorted.{IsPermutation}

-- rows that stay where they are
kept_rows : (tables : List Table) (old new : Trees) (c : Contents) → KeepsRows tables old new → HoldRows old tables c → HoldRows new tables c
kept_rows [] old new [] k h = tt
kept_rows [] old new (rows ∷ c) k h = absurd h
kept_rows (t ∷ tables) old new [] k h = absurd h
kept_rows (t ∷ tables) old new (rows ∷ c) k h = (
  record {
    same = subst (λ l. IsPermutation rows (map (seen t) l)) (sym k.0) h.0.same;
    keyed = subst IsKeyed (sym k.0) h.0.keyed;
  },
  kept_rows tables old new c k.1 h.1,
)

-- one table more, without a row
with_empty : (tables : List Table) (t : Table) (db : Trees) (c : Contents) → HoldRows db tables c → db t.tree ≡ [] → HoldRows db (tables ++ t ∷ []) (c ++ [] ∷ [])
with_empty [] t db [] h none = (
  record {
    same = subst (λ l. IsPermutation [] (map (seen t) l)) (sym none) (IsPermutation-refl []);
    keyed = subst IsKeyed (sym none) (tt, tt);
  },
  tt,
)
with_empty [] t db (rows ∷ c) h none = absurd h
with_empty (x ∷ tables) t db [] h none = absurd h
with_empty (x ∷ tables) t db (rows ∷ c) h none = (h.0, with_empty tables t db c h.1 none)

pub creates : (text : List ℕ) (old new : State) (count : ℕ) → ExecutesInside 0 text [] old new (Ok count) → Creates text old new
creates text old new count h schema table means = record {
  is_open = λ _. h.1.is_open;
  inside = h.1.mode;
  kept = record { was_open = λ _. h.1.was_open; committed = λ _. h.1.committed_is };
  value = λ c holds.
      let has : old.now.schema ≡ schema = is_alone schema old.now.schema holds.fits in
      let w = subst (λ t. Writes old new None CreateTable t [] count) means.whole (runs_as text [] old new schema has CreateTable means.means means.plain count h.0) in
      let each = went w.changed in
      let first = went each.1 in
      let it = first.1 in
      let both : Ok it.table ≡ Ok table = sym it.defined ∙ means.defined in
      let same : it.table ≡ table = cc in
      let listed : first.0.schema ≡ created schema table = it.is ∙ ap (λ s. created s it.table) has ∙ ap (created schema) same in
      let lacks : lacks_sequence first.0.schema ≡ false = ap lacks_sequence listed ∙ means.complete in
      let now : new.now ≡ first.0 = ap (λ (p : Tally × Database). p.1) (same_value each.2) ∙ same_value (rw lacks at first.2) in
      let kept = subst (λ (s : Schema). KeepsRows s.tables old.now.trees first.0.trees) has it.others in
      let fresh : first.0.trees (next_tree schema) ≡ [] = subst (λ s. first.0.trees (next_tree s) ≡ []) has it.empty in
      subst (λ (d : Database). Holds (alone (created schema table)) d (c ++ [] ∷ [])) (sym now) (record {
        fits = subst (Fits (alone (created schema table))) (sym listed) (fits_alone (created schema table));
        sound = database_of first.0 (subst IsDatabase now w.sound);
        rows = with_empty schema.tables (record table { tree = next_tree schema }) first.0.trees c (kept_rows schema.tables old.now.trees first.0.trees c kept holds.rows) fresh;
      });
}

-- ---- one table after another

pub creates_none : (s : State) → IsTrue s.in_transaction → CreatesAll [] s s
creates_none s inside schema [] make = record { is_open = λ o. o; inside = inside; kept = record { was_open = λ o. o; committed = λ _. refl }; value = λ c holds. subst (Holds (alone schema) s.now) (sym (append-nil c)) holds }
creates_none s inside schema (t ∷ ts) make = absurd make

no_rows-append : (xs ys : List Table) → no_rows (xs ++ ys) ≡ no_rows xs ++ no_rows ys
no_rows-append [] ys = refl
no_rows-append (x ∷ xs) ys = ap (λ c. [] ∷ c) (no_rows-append xs ys)

pub makes_then : (first mid new : State) (before between after : Schema) (front back : List Table) → Makes first mid before between front → Makes mid new between after back
    → Makes first new before after (front ++ back)
makes_then first mid new before between after front back a b = record {
  is_open = λ o. b.is_open (a.is_open o);
  inside = b.inside;
  kept = record { was_open = λ o. a.kept.was_open (b.kept.was_open o); committed = λ o. b.kept.committed o ∙ a.kept.committed (b.kept.was_open o) };
  value = λ c holds. subst (Holds (alone after) new.now) (append_assoc c (no_rows front) (no_rows back) ∙ ap (λ l. c ++ l) (sym (no_rows-append front back))) (b.value (c ++ no_rows front) (a.value c holds));
}

record LastTable (schema : Schema) (tables : List Table) (texts : List (List ℕ)) (text : List ℕ) : Type 0 where
  pub front : List Table
  pub table : Table
  pub earlier : MakeTables schema front texts
  pub makes : MakesTable (schema_after schema front) table text
  pub is : schema_after schema tables ≡ created (schema_after schema front) table
  pub all : tables ≡ front ++ table ∷ []

last_table : (texts : List (List ℕ)) (text : List ℕ) (schema : Schema) (tables : List Table) → MakeTables schema tables (texts ++ text ∷ []) → LastTable schema tables texts text
last_table [] text schema [] h = absurd h
last_table [] text schema (t ∷ []) h = record { front = []; table = t; earlier = tt; makes = h.0; is = refl; all = refl }
last_table [] text schema (t ∷ u ∷ ts) h = absurd h.1
last_table (x ∷ xs) text schema [] h = absurd h
last_table (x ∷ xs) text schema (t ∷ ts) h =
    let it = last_table xs text (created schema t) ts h.1 in
    record { front = t ∷ it.front; table = it.table; earlier = (h.0, it.earlier); makes = it.makes; is = it.is; all = ap (λ l. t ∷ l) it.all }

pub creates_then : (first mid new : State) (texts : List (List ℕ)) (text : List ℕ) → CreatesAll texts first mid → Creates text mid new → CreatesAll (texts ++ text ∷ []) first new
creates_then first mid new texts text all one schema tables make =
    let it = last_table texts text schema tables make in
    let both =
    makes_then first mid new schema (schema_after schema it.front) (created (schema_after schema it.front) it.table) it.front (it.table ∷ []) (all schema it.front it.earlier)
    (one (schema_after schema it.front) it.table it.makes) in
    subst (λ (added : List Table). Makes first new schema (schema_after schema tables) added) (sym it.all) (subst (λ (s : Schema). Makes first new schema s (it.front ++ it.table ∷ [])) (sym it.is) both)
