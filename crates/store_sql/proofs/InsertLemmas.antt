-- INSERT of one row, as an edit of its table's tree.
use Rattle.std.proofs.Common.{◌≡◌, ◌≢◌, ℕ, ◌-◌, ◌/◌, ℤ, List, [], ◌∷◌, ◌++◌, length, take, drop, slice_get, Bool, true, false, not, ◌&&◌, cond, Some, None, Ok, refl, sym, ap, subst, subst₂, ◌∙◌, append-nil, IsTrue}
use Rattle.std.specs.Prelude.{MatchBool}
use Rattle.std.specs.List.{list_any, AllByRecursion}
use Rattle.std.specs.List.Sorted.{IsPermutation}
use Rattle.std.specs.declared.cmp.Ordering.{Ordering}
use Rattle.std.specs.declared.cmp.Ordering.TheVariants.{Less, Equal, Greater}
use Rattle.std.specs.Ordering.{match_ordering, is_eq}
use Rattle.std.proofs.lemmas.List.Sorted.{IsPermutation-refl, IsPermutation-trans, IsPermutation-cons, IsPermutation-append_comm, IsPermutation-append_left}
use Rattle.std.proofs.lemmas.Bool.{or_parts, both_ways}
use Rattle.sqlite_value.specs.Order.{value_cmp}
use Rattle.sqlite.specs.Order.{Row}
use Rattle.sqlite.specs.Tree.{Trees, put_row, rowid}
use Rattle.sqlite_trees.specs.View.{is_int}
use Rattle.sqlite.specs.Term.{Term, eval_all}
use Rattle.sqlite.specs.Table.{Table}
use Rattle.sqlite.specs.Schema.{Schema}
use Rattle.sqlite.specs.Source.TheVariants.{Values}
use Rattle.sqlite.specs.Command.TheVariants.{Insert}
use Rattle.sqlite.specs.Edit.{Edit, edit_of, is_taken, with_rowid, taken_by}
use Rattle.sqlite.specs.Cast.{cast_row}
use Rattle.sqlite.specs.Rowids.TheVariants.{Chosen}
use Rattle.sqlite_rules.specs.Action as write
use Rattle.sqlite_rules.specs.Action.{works}
use Rattle.sqlite_schema.specs.declared.schema.Keys.TheVariants.{Enforced}
use Rattle.sqlite.specs.Does.{Tally}
use Rattle.sqlite.specs.Rows.{Written, rowids_for, count_of, stamped}
use Rattle.sqlite.specs.Effect.{Database, value_rows}
use Rattle.sqlite.specs.State.{State, Writes}
use Rattle.sqlite.proofs.Callers.{one_step}
use Rattle.store_sql.proofs.PartLemmas.{went, same_value}

-- a new row goes somewhere among the others
swap_heads : {X : Type 0} (a b : X) (xs : List X) → IsPermutation (a ∷ b ∷ xs) (b ∷ a ∷ xs)
swap_heads a b xs = IsPermutation-append_left xs (a ∷ b ∷ []) (b ∷ a ∷ []) (IsPermutation-append_comm (a ∷ []) (b ∷ []))

pub put_permutes : (new : Row) (rows : List Row) → is_taken rows new ≡ false → IsPermutation (new ∷ rows) (put_row new rows)
put_permutes new [] free = IsPermutation-refl (new ∷ [])
put_permutes new (r ∷ rows) free =
    let parts = or_parts (is_eq (value_cmp (rowid r) (rowid new))) (list_any (λ o. is_eq (value_cmp (rowid o) (rowid new))) rows) free in
    go (value_cmp (rowid r) (rowid new)) refl parts.0 (put_permutes new rows parts.1)
  where
    go : (o : Ordering) → value_cmp (rowid r) (rowid new) ≡ o → is_eq (value_cmp (rowid r) (rowid new)) ≡ false → IsPermutation (new ∷ rows) (put_row new rows)
        → IsPermutation (new ∷ r ∷ rows) (match_ordering o (r ∷ put_row new rows) (new ∷ rows) (new ∷ r ∷ rows))
    go Less is other later = IsPermutation-trans _ _ _ (swap_heads new r rows) (IsPermutation-cons r _ _ later)
    go Equal is other later = absurd (both_ways _ other (rw is refl))
    go Greater is other later = IsPermutation-refl _

uncount : (b x : Bool) (P Q : Type 0) → b ≡ false → MatchBool (cond b x false) P Q → Q
uncount b x P Q h m = subst (λ b. MatchBool (cond b x false) P Q) h m

free_of : (b : Bool) → (not b && true) ≡ true → b ≡ false
free_of true h = absurd (let e = h in cc)
free_of false h = refl

first_true : (b : Bool) → (b && true) ≡ true → IsTrue b
first_true true h = refl
first_true false h = absurd (let e = h in cc)

unclocked : (table : Table) (params : Row) → table.stamps.terms ≡ [] → stamped table params ≡ params
unclocked table params h = ap (λ ts. params ++ eval_all ts (drop (length params - length table.stamps.formats) params ∷ [])) h ∙ append-nil params

chosen : (table : Table) (z : ℤ) → table.is_counted ≡ false → rowids_for table z ≡ Chosen
chosen table z h = rw h refl

pub record Put (schema : Schema) (old new : Database) (table : Table) (row : Row) : Type 0 where
  pub listed : new.schema ≡ schema
  pub fresh : is_taken (old.trees table.tree) (with_rowid Chosen (old.trees table.tree) row) ≡ false
  pub keyed : IsTrue (is_int (rowid (with_rowid Chosen (old.trees table.tree) row)))
  pub rows : new.trees table.tree ≡ put_row (with_rowid Chosen (old.trees table.tree) row) (old.trees table.tree)
  pub tables : AllByRecursion (λ t. t.tree ≢ table.tree → new.trees t.tree ≡ old.trees t.tree) schema.tables

module _ (schema : Schema) (at : ℕ) (table : Table) (place : slice_get schema.tables at ≡ Some table) (uncounted : table.is_counted ≡ false) (unstamped : table.stamps.terms ≡ [])
    (quiet : (olds news : List Row) → works schema Enforced 0 table.tree olds news ≡ []) (terms : List Term) (width : ℕ) (one : length terms / width ≡ 1) where
  pub puts : (old new : State) (params : Row) (count : ℕ) (text : List ℕ) → old.now.schema ≡ schema → Writes old new None (Insert at (Values terms width)) text params count
      → Put schema old.now new.now table (cast_row table (eval_all (take width terms) (params ∷ [])))
  puts old new params count text has w =
      let db = old.now.trees in
      let done = went (rw (has, place) at w.changed) in
      let now = ap (λ (p : Tally × Database). p.1) (same_value (went (went done.2).2).2) in
      let given = went done.1 in
      let counter = went given.2 in
      let written = went counter.2 in
      let counted = went written.2 in
      let kept : counted.0 ≡ written.0 = same_value (uncount table.is_counted _ _ _ uncounted counted.1) in
      let trees : done.0.trees ≡ written.0 = ap (λ (it : Written). it.trees) (same_value counted.2) ∙ kept in
      let row = cast_row table (eval_all (take width terms) (params ∷ [])) in
      let source : given.0 ≡ eval_all (take width terms) (params ∷ []) ∷ [] = given.1.1 ∙ ap (λ p. value_rows p width (length terms / width) terms) (unclocked table params unstamped) ∙ ap (λ n. value_rows params width n terms) one in
      let edit : Edit = record { table = table; gone = []; news = with_rowid Chosen (db table.tree) row ∷ [] } in
      let how : rowids_for table (count_of counter.0) ≡ Chosen = chosen table (count_of counter.0) uncounted in
      let wrote = subst₂ (λ h rows. write.Writes schema Enforced db (edit_of db table [] h 0 rows) (Ok written.0)) how source written.1 in
      let went_well = one_step schema Enforced db written.0 edit (quiet (taken_by db edit) edit.news) wrote in
      let after : new.now.trees ≡ written.0 = ap (λ (d : Database). d.trees) now ∙ trees in
      record {
        listed = ap (λ (d : Database). d.schema) now;
        fresh = free_of _ went_well.fresh;
        keyed = first_true _ went_well.keyed;
        rows = ap (λ (t : Trees). t table.tree) after ∙ went_well.rows;
        tables = subst (λ (tr : Trees). AllByRecursion (λ t. t.tree ≢ table.tree → tr t.tree ≡ db t.tree) schema.tables) (sym after) went_well.tables;
      }
