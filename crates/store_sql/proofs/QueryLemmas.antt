-- The answer of a query over one table: the rows that pass, projected, in the order of the query.
use Rattle.std.proofs.Common.{◌≡◌, inl, inr, ℕ, List, [], ◌∷◌, ◌++◌, map, filter, flat_map, take, length, Bool, cond, refl, sym, ap, subst, ◌∙◌, nat_le}
use Rattle.std.specs.List.{list_all}
use Rattle.std.specs.List.Sorted.{IsPermutation, IsSorted}
use Rattle.std.proofs.lemmas.Bool.{cases_Bool}
use Rattle.std.proofs.lemmas.List.{map-id, length-map, map-append}
use Rattle.std.proofs.Math.Seq.{take-append_seam}
use Rattle.sqlite.specs.Order.{Row}
use Rattle.sqlite.specs.Program.{overlay}
use Rattle.sqlite.specs.Query.{IsAnswer, output, Output, output_cmp}
use Rattle.sqlite.specs.Term.{Term, Env, eval, eval_all, holds}
use Rattle.sqlite.specs.Tree.{Trees}
use Rattle.sqlite_exec.proofs.PartitionLemmas.{IsSorted-from_map}
use Rattle.sqlite_trees.proofs.ListLemmas.{map-map, pull_back}
use Rattle.sqlite_value.specs.declared.keys.Key.{Key}
use Rattle.store_sql.specs.Queries.{plain_query, meets, projected, keys_of, by_keys}

pub kept_as_filter : {A B : Type 0} (p : A → Bool) (f : A → B) (xs : List A) → flat_map (λ x. cond (p x) (f x ∷ []) []) xs ≡ map f (filter p xs)
kept_as_filter p f [] = refl
kept_as_filter p f (x ∷ xs) = elim (cases_Bool (p x)) [
  | inl is ↦ rw is (ap (λ l. f x ∷ l) (kept_as_filter p f xs))
  | inr is ↦ rw is (kept_as_filter p f xs)
]

-- a query without WITH reads the tables themselves
pub no_overlay : (db : Trees) (t : ℕ) → overlay db [] t ≡ db t
no_overlay db t = elim (cases_Bool (nat_le (2147483648) t)) [
  | inl is ↦ rw is refl
  | inr is ↦ rw is refl
]

module _ (tree : ℕ) (terms : List Term) (order : List (Term × Key)) (rest : List Term) where
  abbrev project : List Term
  project = keys_of order ++ rest

  -- the columns of ORDER BY are the first that are shown
  abbrev keyed : Row → Output
  keyed r = (take (length (keys_of order)) r, r)

  front : (env : Env) → (eval_all (keys_of order) env, eval_all project env) ≡ keyed (eval_all project env)
  front env = ap (λ l. (l, eval_all project env)) (sym (ap (take (length (keys_of order))) (map-append (λ x. eval x env) (keys_of order) rest)
      ∙ ap (λ n. take n (eval_all (keys_of order) env ++ eval_all rest env)) (sym (length-map (keys_of order) (λ x. eval x env)))
      ∙ take-append_seam (eval_all (keys_of order) env) (eval_all rest env)))

  keyed_all : (envs : List Env) → map (output (plain_query tree terms project order)) envs ≡ map keyed (map (λ e. eval_all project e) envs)
  keyed_all [] = refl
  keyed_all (e ∷ envs) = ap (λ o. o ∷ map (output (plain_query tree terms project order)) envs) (front e) ∙ ap (λ l. keyed (eval_all project e) ∷ l) (keyed_all envs)

  pub answered : (db : Trees) (params : Row) (rows : List Row) → IsAnswer (plain_query tree terms project order) db params rows
      → IsPermutation (map (projected project params) (filter (meets terms params) (db tree))) rows × IsSorted (by_keys order) rows
  answered db params rows a =
      let q = plain_query tree terms project order in
      let env = λ (r : Row). params ∷ r ∷ [] in
      let all = filter (meets terms params) (db tree) in
      let staged : a.staged ≡ map env all = a.grouped ∙ kept_as_filter (λ r. list_all (holds (params ∷ r ∷ [])) terms) env (db tree) in
      let values = map (projected project params) all in
      let kept : a.kept ≡ map keyed values = a.distinct ∙ ap (map (output q)) staged ∙ keyed_all (map env all) ∙ ap (map keyed) (map-map (λ e. eval_all project e) env all) in
      let back = pull_back keyed a.kept a.ordered a.same values kept in
      let rows_are : rows ≡ back.0 = a.shown ∙ ap (map (λ (o : Output). o.1)) back.2 ∙ map-map (λ (o : Output). o.1) keyed back.0 ∙ map-id back.0 in (
        subst (IsPermutation values) (sym rows_are) back.1,
        subst (IsSorted (by_keys order)) (sym rows_are) (IsSorted-from_map (output_cmp q) keyed back.0 (subst (IsSorted (output_cmp q)) back.2 a.sorted)),
      )

  -- the same, of the tables themselves
  pub selected : (db : Trees) (params : Row) (rows : List Row) → IsAnswer (plain_query tree terms project order) (overlay db []) params rows
      → IsPermutation (map (projected project params) (filter (meets terms params) (db tree))) rows × IsSorted (by_keys order) rows
  selected db params rows a =
      let it = answered (overlay db []) params rows a in
      (subst (λ l. IsPermutation (map (projected project params) (filter (meets terms params) l)) rows) (no_overlay db tree) it.0, it.1)
