-- The effect of INSERT, UPDATE and DELETE on the contents.
use Rattle.std.proofs.Common.{◌≡◌, ℕ, List, [], ◌∷◌, ◌++◌, map, filter, drop, take, length, not, cond, Ok, refl, sym, ap, subst, subst₂, ◌∙◌, arith}
use Rattle.std.specs.List.Sorted.{IsPermutation}
use Rattle.std.proofs.lemmas.List.{take_all}
use Rattle.std.proofs.lemmas.List.Sorted.{IsPermutation-map, IsPermutation-trans, IsPermutation-cons, IsPermutation-append_left}
use Rattle.sqlite.specs.Cast.{cast_row}
use Rattle.sqlite.specs.declared.types.Value.TheVariants.{Null}
use Rattle.sqlite.specs.Edit.{with_rowid}
use Rattle.sqlite.specs.Effect.{Answers}
use Rattle.sqlite.specs.Listing.{understood}
use Rattle.sqlite.specs.Order.{Row}
use Rattle.sqlite.specs.Rowids.TheVariants.{Chosen, Given}
use Rattle.sqlite.specs.Schema.{Schema}
use Rattle.sqlite.specs.State.{State, ExecutesInside}
use Rattle.sqlite.specs.Table.{Table}
use Rattle.sqlite.specs.Term.{Term, col, eval_all}
use Rattle.sqlite.specs.Tree.{Trees, rowid, put_row}
use Rattle.sqlite.proofs.Callers.{statement_of, runs_as}
use Rattle.sqlite_rules.specs.Calls.{ids_of}
use Rattle.sqlite_rules.specs.Edit.{id_in, without_all, put_all, numbered}
use Rattle.sqlite_trees.proofs.ListLemmas.{map-map, IsPermutation-filter}
use Rattle.sqlite_trees.proofs.TreeLemmas.{IsShaped-filter, IsShaped-put_row}
use Rattle.sqlite_trees.specs.declared.store.Shape.TheVariants as shape
use Rattle.store_sql.specs.Contents.{IsKeyed, seen}
use Rattle.store_sql.specs.Effects.{Inserts, Updates, Deletes, passes, updated}
use Rattle.store_sql.specs.Queries.{finding, meets, projected, rewritten}
use Rattle.store_sql.proofs.ContentLemmas.{database_of, moves}
use Rattle.store_sql.proofs.EditLemmas.{Updated, updates as updates_tree, Deleted, deletes as deletes_tree}
use Rattle.store_sql.proofs.InsertLemmas.{puts, put_permutes}
use Rattle.store_sql.proofs.LayoutLemmas.{fits_itself}
use Rattle.store_sql.proofs.QueryLemmas.{selected}
use Rattle.store_sql.proofs.RowidLemmas.{ids, in_place, left_over, put_all_permutes, put_all_keyed, numbered_given}
use Rattle.store_sql.proofs.RowLemmas.{left_alike, changed_alike}

pub inserts : (text : List ℕ) (params : Row) (old new : State) (count : ℕ) → ExecutesInside 0 text params old new (Ok count) → Inserts text params old new
inserts text params old new count h layout at table terms row all shape =
    moves layout at table (all layout.schema (fits_itself layout)).stands (λ rows. row ∷ rows) old new h.1 (λ fits.
    let schema = old.now.schema in
    let means = all schema fits in
    let w = runs_as text params old new schema refl _ means.means means.plain count h.0 in
    let p = puts schema at table means.stands.place means.uncounted means.unstamped means.stands.quiet terms (length terms) means.one old new params count (statement_of text (understood schema text)) refl w in
    let rows = old.now.trees table.tree in
    let put = with_rowid Chosen rows (cast_row table (eval_all (take (length terms) terms) (params ∷ []))) in
    let whole : seen table put ≡ row = ap (λ ts. seen table (with_rowid Chosen rows (cast_row table (eval_all ts (params ∷ []))))) (take_all (length terms) terms (omega arith)) ∙ shape rows in
    record {
      listed = p.listed;
      sound = database_of new.now w.sound;
      tables = p.tables;
      rows = λ l was. record {
        same = subst (λ k. IsPermutation (row ∷ l) (map (seen table) k)) (sym p.rows)
            (subst (λ i. IsPermutation (i ∷ l) (map (seen table) (put_row put rows))) whole
            (IsPermutation-trans _ _ _ (IsPermutation-cons (seen table put) l (map (seen table) rows) was.same)
            (IsPermutation-map (seen table) (put ∷ rows) (put_row put rows) (put_permutes put rows p.fresh))));
        keyed = subst IsKeyed (sym p.rows) (IsShaped-put_row put rows p.keyed was.keyed);
      };
    })

-- the row ids that a statement finds are those of the rows that pass
found_ids : (tree : ℕ) (terms rest : List Term) (schema : Schema) (db : Trees) (params : Row) (found : List Row)
    → Answers (record { schema = schema; trees = db }) (finding tree terms (col 1 0 ∷ rest)) params found
    → IsPermutation (map (projected (col 1 0 ∷ rest) params) (filter (meets terms params) (db tree))) found × IsPermutation (ids (meets terms params) (db tree)) (ids_of found)
found_ids tree terms rest schema db params found a =
    let f = projected (col 1 0 ∷ rest) params in
    let perm = (selected tree terms [] (col 1 0 ∷ rest) db params found (a.answer Null)).0 in
    (perm, subst (λ l. IsPermutation l (ids_of found)) (map-map (λ r. id_in (rowid r)) f (filter (meets terms params) (db tree))) (IsPermutation-map (λ r. id_in (rowid r)) _ _ perm))

module _ (schema : Schema) (table : Table) (terms rest : List Term) (old new : Trees) (params : Row) (keyed : IsKeyed (old table.tree)) where
  -- the tree after an UPDATE
  updated_tree : (now : Schema) → Updated schema (record { schema = now; trees = old }) (record { schema = now; trees = new }) table (finding table.tree terms (col 1 0 ∷ rest)) params
      → IsPermutation (map (λ r. cond (meets terms params r) (rewritten table rest params r) r) (old table.tree)) (new table.tree) × IsKeyed (new table.tree)
  updated_tree now u =
      let all = old table.tree in
      let p = meets terms params in
      let f = projected (col 1 0 ∷ rest) params in
      let it = found_ids table.tree terms rest schema old params u.found u.answer in
      let left = without_all all (ids_of u.found) in
      let left_is : left ≡ filter (λ r. not (p r)) all = left_over p all (ids_of u.found) keyed it.1 in
      let make = λ (s : Row). cast_row table (drop 1 s) in
      let news_are = numbered_given left (map make u.found) in
      let news = numbered Given left (map make u.found) in
      let made : IsPermutation (map (rewritten table rest params) (filter p all)) news =
      subst₂ IsPermutation (map-map make f (filter p all)) (sym news_are) (IsPermutation-map make _ _ it.0) in
      let both : IsPermutation (map (rewritten table rest params) (filter p all) ++ filter (λ r. not (p r)) all) (news ++ left) =
      subst (λ l. IsPermutation (map (rewritten table rest params) (filter p all) ++ filter (λ r. not (p r)) all) (news ++ l)) (sym left_is) (IsPermutation-append_left (filter (λ r. not (p r)) all) _ _ made) in
      let put : IsPermutation (news ++ left) (put_all left news) = put_all_permutes news left u.fresh in (
        subst (IsPermutation _) (sym u.rows) (IsPermutation-trans _ _ _ (in_place p (rewritten table rest params) all) (IsPermutation-trans _ _ _ both put)),
        subst IsKeyed (sym u.rows) (put_all_keyed news left u.keyed (subst IsKeyed (sym left_is) (IsShaped-filter shape.Table (λ r. not (p r)) all keyed))),
      )

  -- the tree after a DELETE
  deleted_tree : (now : Schema) → Deleted schema (record { schema = now; trees = old }) (record { schema = now; trees = new }) table (finding table.tree terms (col 1 0 ∷ rest)) params
      → (new table.tree ≡ filter (λ r. not (meets terms params r)) (old table.tree)) × IsKeyed (new table.tree)
  deleted_tree now u =
      let all = old table.tree in
      let p = meets terms params in
      let it = found_ids table.tree terms rest schema old params u.found u.answer in
      let rows : new table.tree ≡ filter (λ r. not (p r)) all = u.rows ∙ left_over p all (ids_of u.found) keyed it.1 in
      (rows, subst IsKeyed (sym rows) (IsShaped-filter shape.Table (λ r. not (p r)) all keyed))

pub updates : (text : List ℕ) (params : Row) (old new : State) (count : ℕ) → ExecutesInside 0 text params old new (Ok count) → Updates text params old new
updates text params old new count h layout at table terms rest all =
    moves layout at table (all layout.schema (fits_itself layout)).stands (map (updated table terms rest params)) old new h.1 (λ fits.
    let schema = old.now.schema in
    let means = all schema fits in
    let w = runs_as text params old new schema refl _ means.means means.plain count h.0 in
    let u = updates_tree schema at table means.stands.place means.stands.quiet _ old new params count (statement_of text (understood schema text)) refl w in
    let again : Updated schema (record { schema = new.now.schema; trees = old.now.trees }) (record { schema = new.now.schema; trees = new.now.trees }) table (finding table.tree terms (col 1 0 ∷ rest)) params =
    record { listed = u.listed; found = u.found; answer = u.answer; fresh = u.fresh; keyed = u.keyed; rows = u.rows; tables = u.tables } in
    let stored = old.now.trees table.tree in
    record {
      listed = u.listed;
      sound = database_of new.now w.sound;
      tables = u.tables;
      rows = λ l was.
          let tree = updated_tree schema table terms rest old.now.trees new.now.trees params was.keyed new.now.schema again in
          let alike = changed_alike table.key (meets terms params) (means.overlooks params) (rewritten table rest params) (means.passes_over params) stored was.keyed.1 in
          record {
            same = IsPermutation-trans _ _ _ (IsPermutation-map (updated table terms rest params) _ _ was.same)
                (subst (λ k. IsPermutation k (map (seen table) (new.now.trees table.tree))) alike (IsPermutation-map (seen table) _ _ tree.0));
            keyed = tree.1;
          };
    })

pub deletes : (text : List ℕ) (params : Row) (old new : State) (count : ℕ) → ExecutesInside 0 text params old new (Ok count) → Deletes text params old new
deletes text params old new count h layout at table terms all =
    let q = λ (r : Row). not (passes table terms params r) in
    moves layout at table (all layout.schema (fits_itself layout)).stands (filter q) old new h.1 (λ fits.
    let schema = old.now.schema in
    let means = all schema fits in
    let w = runs_as text params old new schema refl _ means.means means.plain count h.0 in
    let u = deletes_tree schema at table means.stands.place means.stands.quiet _ old new params count (statement_of text (understood schema text)) refl w in
    let again : Deleted schema (record { schema = new.now.schema; trees = old.now.trees }) (record { schema = new.now.schema; trees = new.now.trees }) table (finding table.tree terms (col 1 0 ∷ [])) params =
    record { listed = u.listed; found = u.found; answer = u.answer; rows = u.rows; tables = u.tables } in
    let stored = old.now.trees table.tree in
    record {
      listed = u.listed;
      sound = database_of new.now w.sound;
      tables = u.tables;
      rows = λ l was.
          let tree = deleted_tree schema table terms [] old.now.trees new.now.trees params was.keyed new.now.schema again in
          let alike = left_alike table.key (meets terms params) (means.overlooks params) stored was.keyed.1 in
          record {
            same = subst (IsPermutation _) (sym alike ∙ sym (ap (map (seen table)) tree.0)) (IsPermutation-filter q _ _ was.same);
            keyed = tree.1;
          };
    })
