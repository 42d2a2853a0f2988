-- All people, as an officer is shown them.
use Rattle.std.proofs.Common.{◌≡◌, ◌+◌, ◌<◌, Bool, true, List, [], ◌∷◌, map, length, get_or, refl, sym, ap, ap₂, subst, ◌∙◌, arith}
use Rattle.std.specs.List.Sorted.{IsPermutation, IsSortedBy}
use Rattle.std.specs.Ordering.{is_lt, ordering_then}
use Rattle.std.specs.declared.cmp.Ordering.{Ordering}
use Rattle.std.specs.declared.cmp.Ordering.TheVariants.{Less, Equal, Greater}
use Rattle.std.proofs.lemmas.List.{get_or-map, length-map}
use Rattle.std.proofs.lemmas.List.Sorted.{IsPermutation-map}
use Rattle.sqlite.specs.declared.types.Value.TheVariants.{Text}
use Rattle.sqlite_trees.proofs.ListLemmas.{all_of, filter_all}
use Rattle.sqlite_value.specs.Order.{value_cmp}
use Rattle.sqlite_value.proofs.OrderLemmas.{value_cmp-Text}
use Rattle.desk_types.specs.declared.command.Person.{Person}
use Rattle.desk_history.specs.PeopleShown.{ShowsPeople, by_name, shown_person}
use Rattle.store_sql.specs.Queries.{by_keys}
use Rattle.store_schema.specs.Columns.{by_first}
use Rattle.store_schema.specs.Tables as schema
use Rattle.store_schema.specs.rows.Values.{person_values}
use Rattle.store_reads.specs.Reads.{AreFound}

-- ---- SQL's order of people is that of their names

then_equal : (r : Ordering) → ordering_then r Equal ≡ r
then_equal Less = refl
then_equal Equal = refl
then_equal Greater = refl

abbrev by_sql : Person → Person → Ordering
by_sql x y = by_keys (by_first 1 schema.people) (person_values x) (person_values y)

people_order : (x y : Person) → by_sql x y ≡ by_name (shown_person x) (shown_person y)
people_order x y = then_equal (value_cmp (Text x.name) (Text y.name)) ∙ value_cmp-Text x.name y.name

module _ {X Y : Type 0} (f : X → Y) (before : X → X → Bool) (after : Y → Y → Bool) (same : (x y : X) → after (f x) (f y) ≡ before x y) where
  -- what is sorted by one test is sorted by the other, item by item
  sorted_map : (xs : List X) → IsSortedBy before xs → IsSortedBy after (map f xs)
  sorted_map [] h = λ k d low high. absurd (omega arith)
  sorted_map (x ∷ xs) h = λ k d low high.
      let long : length (map f (x ∷ xs)) ≡ length (x ∷ xs) = length-map (x ∷ xs) f in
      let within : k + 1 < length (x ∷ xs) = omega (arith, high, long) in
      let here : k < length (x ∷ xs) = omega (arith, within) in
      ap₂ after (get_or-map f (x ∷ xs) (k + 1) x d within) (get_or-map f (x ∷ xs) k x d here)
      ∙ same (get_or (x ∷ xs) (k + 1) x) (get_or (x ∷ xs) k x) ∙ h k x low within

-- ---- people

pub are_shown : (ps found : List Person) → AreFound person_values schema.people 1 (λ p. true) ps found → ShowsPeople ps (map shown_person found)
are_shown ps found it = record {
  all = IsPermutation-map shown_person ps found (subst (λ l. IsPermutation l found) (filter_all (λ (p : Person). true) ps (all_of (λ (p : Person). true ≡ true) (λ p. refl) ps)) it.all);
  sorted = sorted_map shown_person (λ x y. is_lt (by_sql x y)) (λ x y. is_lt (by_name x y)) (λ x y. sym (ap is_lt (people_order x y))) found it.sorted;
}
