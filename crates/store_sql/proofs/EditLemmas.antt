-- UPDATE and DELETE, as edits of their table's tree.
use Rattle.std.proofs.Common.{◌≡◌, ◌≢◌, ℕ, List, [], slice_get, true, Some, None, sym, ap, subst, ◌∙◌}
use Rattle.std.specs.List.{AllByRecursion}
use Rattle.sqlite.specs.Order.{Row}
use Rattle.sqlite.specs.Tree.{Trees}
use Rattle.sqlite.specs.Table.{Table}
use Rattle.sqlite.specs.Schema.{Schema}
use Rattle.sqlite.specs.Command.TheVariants.{Update, Delete}
use Rattle.sqlite_rules.specs.Edit.{Edit, edit_of, edited, taken_by, without_all, are_fresh, have_rowids}
use Rattle.sqlite.specs.Rowids.TheVariants.{Given}
use Rattle.sqlite_rules.specs.Calls.{ids_of}
use Rattle.sqlite_rules.specs.Action.{works}
use Rattle.sqlite_schema.specs.declared.schema.Keys.TheVariants.{Enforced}
use Rattle.sqlite.specs.Does.{Tally}
use Rattle.sqlite.specs.Rows.{Written}
use Rattle.sqlite.specs.Effect.{Database}
use Rattle.sqlite.specs.State.{State, Writes}
use Rattle.sqlite.proofs.Callers.{one_step}
use Rattle.sqlite_schema.specs.declared.program.Program.{Program}
use Rattle.sqlite.specs.Effect.{Answers}
use Rattle.store_sql.proofs.PartLemmas.{went, same_value}

pub record Updated (schema : Schema) (old new : Database) (table : Table) (q : Program) (params : Row) : Type 0 where
  pub listed : new.schema ≡ schema
  pub found : List Row
  pub answer : Answers (record { schema = schema; trees = old.trees }) q params found
  pub fresh : are_fresh (without_all (old.trees table.tree) (ids_of found)) (edit_of old.trees table (ids_of found) Given 1 found).news ≡ true
  pub keyed : have_rowids (edit_of old.trees table (ids_of found) Given 1 found).news ≡ true
  pub rows : new.trees table.tree ≡ edited old.trees (edit_of old.trees table (ids_of found) Given 1 found)
  pub tables : AllByRecursion (λ t. t.tree ≢ table.tree → new.trees t.tree ≡ old.trees t.tree) schema.tables

module _ (schema : Schema) (at : ℕ) (table : Table) (place : slice_get schema.tables at ≡ Some table)
    (quiet : (olds news : List Row) → works schema Enforced 0 table.tree olds news ≡ []) (q : Program) where
  pub updates : (old new : State) (params : Row) (count : ℕ) (text : List ℕ) → old.now.schema ≡ schema → Writes old new None (Update at q) text params count
      → Updated schema old.now new.now table q params
  updates old new params count text has w =
      let db = old.now.trees in
      let done = went (rw (has, place) at w.changed) in
      let now = ap (λ (p : Tally × Database). p.1) (same_value (went (went done.2).2).2) in
      let given = went done.1 in
      let written = went given.2 in
      let trees : done.0.trees ≡ written.0 = ap (λ (it : Written). it.trees) (same_value written.2) in
      let edit : Edit = edit_of db table (ids_of given.0) Given 1 given.0 in
      let went_well = one_step schema Enforced db written.0 edit (quiet (taken_by db edit) edit.news) written.1 in
      let after : new.now.trees ≡ written.0 = ap (λ (d : Database). d.trees) now ∙ trees in
      record {
        listed = ap (λ (d : Database). d.schema) now;
        found = given.0;
        answer = given.1;
        fresh = went_well.fresh;
        keyed = went_well.keyed;
        rows = ap (λ (t : Trees). t table.tree) after ∙ went_well.rows;
        tables = subst (λ (tr : Trees). AllByRecursion (λ t. t.tree ≢ table.tree → tr t.tree ≡ db t.tree) schema.tables) (sym after) went_well.tables;
      }

pub record Deleted (schema : Schema) (old new : Database) (table : Table) (q : Program) (params : Row) : Type 0 where
  pub listed : new.schema ≡ schema
  pub found : List Row
  pub answer : Answers (record { schema = schema; trees = old.trees }) q params found
  pub rows : new.trees table.tree ≡ without_all (old.trees table.tree) (ids_of found)
  pub tables : AllByRecursion (λ t. t.tree ≢ table.tree → new.trees t.tree ≡ old.trees t.tree) schema.tables

module _ (schema : Schema) (at : ℕ) (table : Table) (place : slice_get schema.tables at ≡ Some table)
    (quiet : (olds news : List Row) → works schema Enforced 0 table.tree olds news ≡ []) (q : Program) where
  pub deletes : (old new : State) (params : Row) (count : ℕ) (text : List ℕ) → old.now.schema ≡ schema → Writes old new None (Delete at q) text params count
      → Deleted schema old.now new.now table q params
  deletes old new params count text has w =
      let db = old.now.trees in
      let done = went (rw (has, place) at w.changed) in
      let now = ap (λ (p : Tally × Database). p.1) (same_value (went (went done.2).2).2) in
      let given = went done.1 in
      let written = went given.2 in
      let trees : done.0.trees ≡ written.0 = ap (λ (it : Written). it.trees) (same_value written.2) in
      let edit : Edit = edit_of db table (ids_of given.0) Given 0 [] in
      let went_well = one_step schema Enforced db written.0 edit (quiet (taken_by db edit) edit.news) written.1 in
      let after : new.now.trees ≡ written.0 = ap (λ (d : Database). d.trees) now ∙ trees in
      record {
        listed = ap (λ (d : Database). d.schema) now;
        found = given.0;
        answer = given.1;
        rows = ap (λ (t : Trees). t table.tree) after ∙ went_well.rows;
        tables = subst (λ (tr : Trees). AllByRecursion (λ t. t.tree ≢ table.tree → tr t.tree ≡ db t.tree) schema.tables) (sym after) went_well.tables;
      }
