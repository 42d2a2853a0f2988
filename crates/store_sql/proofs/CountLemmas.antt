-- The answer of count(*).
use Rattle.std.proofs.Common.{◌≡◌, ℕ, pos, List, [], ◌∷◌, map, filter, length, slice_get, Option, Some, None, refl, sym, ap, subst, ◌∙◌, IsTrue}
use Rattle.std.specs.List.{AllZip, list_all}
use Rattle.std.specs.List.Sorted.{IsPermutation}
use Rattle.std.proofs.lemmas.List.{length-map}
use Rattle.std.proofs.lemmas.List.Sorted.{length_permutation}
use Rattle.sqlite.proofs.Callers.{one_permutation, reads_as}
use Rattle.sqlite.specs.declared.types.Value.{Value}
use Rattle.sqlite.specs.declared.types.Value.TheVariants.{Null, Int}
use Rattle.sqlite.specs.Order.{Row, column}
use Rattle.sqlite.specs.Query.{IsAnswer, output, Output}
use Rattle.sqlite.specs.State.{State, Shown}
use Rattle.sqlite.specs.Table.{Table}
use Rattle.sqlite.specs.Term.{Term, Env, holds}
use Rattle.sqlite.specs.Tree.{Trees}
use Rattle.sqlite_sql.specs.Group.{Aggregate, Grouping, IsSummary}
use Rattle.sqlite_trees.proofs.ListLemmas.{IsPermutation-filter}
use Rattle.store_sql.specs.Contents.{Contents, Holds, seen}
use Rattle.store_sql.specs.Effects.{Counts, counted, passes}
use Rattle.store_sql.specs.Layouts.{Layout}
use Rattle.store_sql.specs.Meanings.{CountsRows, OverlooksRowid}
use Rattle.store_sql.specs.Queries.{count_query, one_group, row_count, number_row, meets}
use Rattle.store_sql.proofs.ContentLemmas.{rows_at}
use Rattle.store_sql.proofs.LayoutLemmas.{fits_itself}
use Rattle.store_sql.proofs.QueryLemmas.{kept_as_filter, no_overlay}
use Rattle.store_sql.proofs.ReadLemmas.{stays}
use Rattle.store_sql.proofs.RowLemmas.{picked}

one_row : (g : Grouping) (group : List Env) (rows : List Row) → AllZip (IsSummary g) (group ∷ []) rows → (r : Row) × IsSummary g group r × (rows ≡ r ∷ [])
one_row g group [] h = absurd h
one_row g group (r ∷ []) h = (r, h.0, refl)
one_row g group (r ∷ s ∷ rows) h = absurd h.1

one_value : (v0 : Value) (values : Row) → AllZip (λ (a : Aggregate) v. ◌≡◌ {A = Option Value} (Some v0) (Some v)) (row_count ∷ []) values → values ≡ v0 ∷ []
one_value v0 [] h = absurd h
one_value v0 (v ∷ []) h = let e : v0 ≡ v = (let k = h.0 in cc) in ap (λ x. x ∷ []) (sym e)
one_value v0 (v ∷ w ∷ values) h = absurd h.1

answers_count : (tree : ℕ) (terms : List Term) (db : Trees) (params : Row) (rows : List Row) → IsAnswer (count_query tree terms) db params rows
    → rows ≡ number_row (counted (length (filter (meets terms params) (db tree))))
answers_count tree terms db params rows a =
    let g = one_group in
    let order = a.grouped.grouping.0 in
    let one = one_row g order a.grouped.rows (subst (λ gs. AllZip (IsSummary g) gs a.grouped.rows) a.grouped.grouping.2 a.grouped.summaries) in
    let n = length (map (λ (e : Env). Null) order) in
    let v = one_value (Int (pos (counted n))) one.1.0 one.1.1 in
    let r : one.0 ≡ Int (pos (counted n)) ∷ [] = one.1.2 ∙ v in
    let env = λ (x : Row). params ∷ x ∷ [] in
    let all = filter (meets terms params) (db tree) in
    let many : n ≡ length all = length-map order _ ∙ length_permutation _ _ a.grouped.grouping.1
    ∙ ap length (kept_as_filter (λ x. list_all (holds (params ∷ x ∷ [])) terms) env (db tree)) ∙ length-map all env in
    let staged : a.staged ≡ env one.0 ∷ [] = a.grouped.having ∙ ap (λ rs. filter (λ (e : Env). list_all (holds e) []) (map env rs)) one.2 in
    let o : Output = ([], column one.0 0 ∷ []) in
    let kept : a.kept ≡ o ∷ [] = a.distinct ∙ ap (map (output (count_query tree terms))) staged in
    let ordered = one_permutation o a.ordered (subst (λ k. IsPermutation k a.ordered) kept a.same) in
    a.shown ∙ ap (λ os. map (λ (p : Output). p.1) os) ordered ∙ ap (λ (x : Row). (column x 0 ∷ []) ∷ []) r ∙ ap (λ k. number_row (counted k)) many

always : (key : Option ℕ) → OverlooksRowid {Y = ℕ} key (λ _. 0)
always (Some _) = tt
always None = λ id row. refl

-- the answer, by the contents of the database, inside a transaction and outside
pub tallies : (text : List ℕ) (params : Row) (old new : State) (answer : List Row) (layout : Layout) (at : ℕ) (table : Table) (terms : List Term) (names : List (List ℕ))
    → CountsRows layout at table text terms names → Shown text params old new answer
    → (c : Contents) (rows : List Row) → Holds layout old.now c → slice_get c at ≡ Some rows → answer ≡ number_row (counted (length (filter (passes table terms params) rows)))
tallies text params old new answer layout at table terms names all h c rows held has =
    let means = all old.now.schema held.fits in
    let read = reads_as text params old new old.now.schema refl _ means.means means.plain means.unlisted answer h in
    let stored = old.now.trees table.tree in
    let tree = rows_at layout.schema.tables c at table rows old.now.trees (all layout.schema (fits_itself layout)).place has held.rows in
    let p = meets terms params in
    let alike = picked table.key p (means.overlooks params) (λ _. 0) (always table.key) stored tree.keyed.1 in
    let many : length (filter p stored) ≡ length (filter (passes table terms params) rows) =
    sym (length-map (filter p stored) (λ _. 0)) ∙ ap length alike ∙ length-map (filter (passes table terms params) (map (seen table) stored)) (λ _. 0)
    ∙ length_permutation _ _ (IsPermutation-filter (passes table terms params) _ _ tree.same) in
    answers_count table.tree terms _ params answer (read.answer Null) ∙ ap (λ l. number_row (counted (length (filter p l)))) (no_overlay old.now.trees table.tree) ∙ ap (λ n. number_row (counted n)) many

-- the number that the answer holds
pub counts : (text : List ℕ) (params : Row) (old new : State) (answer : List Row) (n : ℕ) → IsTrue old.in_transaction → Shown text params old new answer
    → ((m : ℕ) → answer ≡ number_row m → n ≡ m) → Counts text params old new n
counts text params old new answer n inside h only layout at table terms names means = (
  stays layout text params old new answer (λ schema fits. (means schema fits).plain) inside h,
  λ c rows sees has. only _ (tallies text params old new answer layout at table terms names means h c rows sees.holds has),
)
