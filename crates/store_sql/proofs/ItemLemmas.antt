-- The step from rows to the items that they hold.
use Rattle.std.proofs.Common.{◌≡◌, inl, inr, ℕ, zero, suc, List, [], ◌∷◌, ◌++◌, map, filter, length, slice_get, Bool, not, cond, Some, refl, sym, ap, subst, ◌∙◌}
use Rattle.std.specs.List.Sorted.{IsPermutation, IsSorted}
use Rattle.std.proofs.lemmas.Bool.{cases_Bool}
use Rattle.std.proofs.lemmas.List.{length-map}
use Rattle.sqlite.specs.Order.{Row}
use Rattle.sqlite.specs.State.{State}
use Rattle.sqlite.specs.Table.{Table}
use Rattle.sqlite.specs.Term.{Term}
use Rattle.sqlite_exec.proofs.PartitionLemmas.{IsSorted-from_map}
use Rattle.sqlite_trees.proofs.ListLemmas.{filter-map, map-map, pull_back}
use Rattle.sqlite_value.specs.declared.keys.Key.{Key}
use Rattle.store_sql.specs.Contents.{Contents, seen, whole, change_at}
use Rattle.store_sql.specs.Effects.{IsSelected, passes, shown_of, updated}
use Rattle.store_sql.specs.Layouts.{Layout}
use Rattle.store_sql.specs.Queries.{keys_of, by_keys, rewritten}
use Rattle.store_sql.specs.States.{Moves, Sees, Turns}

pub map_same : {X Y : Type 0} (f g : X → Y) → ((x : X) → f x ≡ g x) → (xs : List X) → map f xs ≡ map g xs
map_same f g h [] = refl
map_same f g h (x ∷ xs) = rw (h x, map_same f g h xs) refl

pub filter_same : {X : Type 0} (p q : X → Bool) → ((x : X) → p x ≡ q x) → (xs : List X) → filter p xs ≡ filter q xs
filter_same p q h [] = refl
filter_same p q h (x ∷ xs) = rw (h x, filter_same p q h xs) refl

-- the rows before and after may be those of different things
pub turns : {T : Type 0} (layout : Layout) (before after : T → Contents) (change : Contents → Contents) (old new : State) → Moves layout change old new → ((t : T) → after t ≡ change (before t)) → Turns layout before after old new
turns layout before after change old new m same = record {
  is_open = m.is_open;
  inside = m.inside;
  kept = m.kept;
  value = λ t sees. subst (Sees layout new) (sym (same t)) (m.value (before t) sees);
}

change_same : (at : ℕ) (f g : List Row → List Row) (c : Contents) (rows : List Row) → slice_get c at ≡ Some rows → f rows ≡ g rows → change_at at f c ≡ change_at at g c
change_same at f g [] rows has same = refl
change_same zero f g (r ∷ c) rows has same = let e : r ≡ rows = (let k = has in cc) in ap (λ l. l ∷ c) (ap f e ∙ same ∙ sym (ap g e))
change_same (suc at) f g (r ∷ c) rows has same = ap (λ l. r ∷ l) (change_same at f g c rows has same)

module _ {X : Type 0} (table : Table) (terms : List Term) (params : Row) (item : X → Row) (p : X → Bool) (tested : (x : X) → passes table terms params (item x) ≡ p x) where
  updated_item : (rest : List Term) (h : X → X) → ((x : X) → seen table (rewritten table rest params (whole table (item x))) ≡ item (h x)) → (x : X) → updated table terms rest params (item x) ≡ item (cond (p x) (h x) x)
  updated_item rest h made x = elim (cases_Bool (p x)) [
    | inl is ↦ rw (tested x, is, made x) refl
    | inr is ↦ rw (tested x, is) refl
  ]

  -- UPDATE, by the items of the rows
  pub replaces : (rest : List Term) (h : X → X) → ((x : X) → seen table (rewritten table rest params (whole table (item x))) ≡ item (h x))
      → (at : ℕ) (c : Contents) (xs : List X) → slice_get c at ≡ Some (map item xs)
      → change_at at (λ _. map item (map (λ x. cond (p x) (h x) x) xs)) c ≡ change_at at (map (updated table terms rest params)) c
  replaces rest h made at c xs has = change_same at _ _ c (map item xs) has
      (map-map item (λ x. cond (p x) (h x) x) xs ∙ sym (map_same _ _ (updated_item rest h made) xs) ∙ sym (map-map (updated table terms rest params) item xs))

  -- DELETE, by the items of the rows
  pub removes : (at : ℕ) (c : Contents) (xs : List X) → slice_get c at ≡ Some (map item xs)
      → change_at at (λ _. map item (filter (λ x. not (p x)) xs)) c ≡ change_at at (filter (λ r. not (passes table terms params r))) c
  removes at c xs has = change_same at _ _ c (map item xs) has
      (ap (map item) (filter_same (λ x. not (p x)) (λ x. not (passes table terms params (item x))) (λ x. ap not (sym (tested x))) xs) ∙ sym (filter-map (λ r. not (passes table terms params r)) item xs))

  -- SELECT, by the items of the rows: the answer shows these items, in that order
  pub lists : (order : List (Term × Key)) (rest : List Term) (show : X → Row) → ((x : X) → shown_of table (keys_of order ++ rest) params (item x) ≡ show x)
      → (xs : List X) (answer : List Row) → IsSelected table terms order rest params (map item xs) answer
      → (ys : List X) × IsPermutation (filter p xs) ys × (answer ≡ map show ys) × IsSorted (λ x y. by_keys order (show x) (show y)) ys
  lists order rest show shows xs answer it =
      let f = shown_of table (keys_of order ++ rest) params in
      let same : map f (filter (passes table terms params) (map item xs)) ≡ map show (filter p xs) =
      ap (map f) (filter-map (passes table terms params) item xs) ∙ map-map f item (filter (λ x. passes table terms params (item x)) xs)
      ∙ map_same (λ x. f (item x)) show shows (filter (λ x. passes table terms params (item x)) xs) ∙ ap (map show) (filter_same (λ x. passes table terms params (item x)) p tested xs) in
      let back = pull_back show (map show (filter p xs)) answer (subst (λ l. IsPermutation l answer) same it.same) (filter p xs) refl in
      (back.0, back.1, back.2, IsSorted-from_map (by_keys order) show back.0 (subst (IsSorted (by_keys order)) back.2 it.sorted))

  -- count(*), by the items of the rows
  pub passed : (xs : List X) → length (filter (passes table terms params) (map item xs)) ≡ length (filter p xs)
  passed xs = ap length (filter-map (passes table terms params) item xs) ∙ length-map (filter (λ x. passes table terms params (item x)) xs) item
      ∙ ap length (filter_same (λ x. passes table terms params (item x)) p tested xs)
