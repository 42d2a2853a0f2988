-- The step from the answer of a query to the rows of the desk's tables.
use Rattle.std.proofs.Common.{◌≡◌, ℕ, List, [], ◌∷◌, ◌++◌, map, filter, count_by, length, slice_get, Bool, true, min, ◌<◌, Option, Some, None, refl, sym, ap, subst, ◌∙◌, arith}
use Rattle.std.specs.List.Sorted.{IsPermutation}
use Rattle.std.specs.List.{All}
use Rattle.std.proofs.lemmas.List.Elements.{All-head}
use Rattle.std.proofs.lemmas.List.Sums.{length-filter}
use Rattle.std.proofs.lemmas.List.Sorted.{IsPermutation-map, IsPermutation-sym, length_permutation}
use Rattle.sqlite.proofs.Callers.{one_permutation}
use Rattle.sqlite.specs.Order.{Row}
use Rattle.sqlite.specs.State.{State}
use Rattle.sqlite.specs.Table.{Table}
use Rattle.sqlite.specs.Term.{Term}
use Rattle.sqlite_trees.proofs.ListLemmas.{map-map}
use Rattle.desk_history.specs.Tables.{Tables}
use Rattle.store_schema.specs.rows.Contents.{contents}
use Rattle.store_sql.specs.Effects.{passes, shown_of, counted}
use Rattle.store_sql.specs.Meanings.{CountsRows, SelectsRows}
use Rattle.store_sql.specs.Queries.{keys_of}
use Rattle.store_sql.proofs.ItemLemmas.{lists, passed, turns}
use Rattle.store_schema.specs.Columns.{by_first}
use Rattle.store_schema.specs.Tables.{desk_layout}
use Rattle.store_reads.specs.Reads.{AreFound, Finds, IsCounted, ReadsTables, listed}

-- a permutation of at most one value is that value
alone : {X : Type 0} (xs : List X) (found : Option X) → IsPermutation xs (listed found) → xs ≡ listed found
alone [] None h = refl
alone (x ∷ xs) None h = absurd (omega (arith, length_permutation (x ∷ xs) [] h))
alone xs (Some y) h = one_permutation y xs (IsPermutation-sym xs (y ∷ []) h)

module _ {X : Type 0} (at : ℕ) (table : Table) (text : List ℕ) (terms : List Term) (ordered : ℕ) (rest : List Term) (names : List (List ℕ))
    (means : SelectsRows desk_layout at table text terms (by_first ordered table) rest names) (item shown : X → Row) (part : Tables → List X)
    (has : (t : Tables) → slice_get (contents t) at ≡ Some (map item (part t))) (params : Row)
    (shows : (x : X) → shown_of table (keys_of (by_first ordered table) ++ rest) params (item x) ≡ shown x)
    (p : X → Bool) (tested : (x : X) → passes table terms params (item x) ≡ p x) (old new : State) where
  -- the rows that meet the condition, all and only those, in the order of the query
  pub tells_rows : (values : List X) → Finds shown text params values old new → ReadsTables (λ t. AreFound shown table ordered p (part t) values) old new
  tells_rows values f =
      let order = by_first ordered table in
      let it = f.selects desk_layout at table terms order rest names means in
      record {
        kept = turns desk_layout contents contents (λ c. c) old new it.0 (λ t. refl);
        tells = λ t sees.
            let ys = lists table terms params item p tested order rest shown shows (part t) f.answer (it.1 (contents t) (map item (part t)) sees (has t)) in
            let same : values ≡ ys.0 = f.read.only ys.0 ys.2 in
            subst (AreFound shown table ordered p (part t)) (sym same) (record { all = ys.1; sorted = ys.3 });
      }

  -- the row that meets the condition, if there is one
  pub tells_row : (found : Option X) → Finds shown text params (listed found) old new → ReadsTables (λ t. filter p (part t) ≡ listed found) old new
  tells_row found f =
      let it = tells_rows (listed found) f in
      record { kept = it.kept; tells = λ t sees. alone (filter p (part t)) found (it.tells t sees).all }

-- what a query in no order shows of each row that meets the condition
pub tells_each : {X Y : Type 0} (at : ℕ) (table : Table) (text : List ℕ) (terms rest : List Term) (names : List (List ℕ)) → SelectsRows desk_layout at table text terms [] rest names
    → (item : X → Row) (of : X → Y) (shown : Y → Row) (part : Tables → List X) → ((t : Tables) → slice_get (contents t) at ≡ Some (map item (part t)))
    → (params : Row) → ((x : X) → shown_of table rest params (item x) ≡ shown (of x)) → (p : X → Bool) → ((x : X) → passes table terms params (item x) ≡ p x)
    → (old new : State) (values : List Y) → Finds shown text params values old new → ReadsTables (λ t. IsPermutation (map of (filter p (part t))) values) old new
tells_each at table text terms rest names means item of shown part has params shows p tested old new values f =
    let it = f.selects desk_layout at table terms [] rest names means in
    record {
      kept = turns desk_layout contents contents (λ c. c) old new it.0 (λ t. refl);
      tells = λ t sees.
          let ys = lists table terms params item p tested [] rest (λ x. shown (of x)) shows (part t) f.answer (it.1 (contents t) (map item (part t)) sees (has t)) in
          let same : values ≡ map of ys.0 = f.read.only (map of ys.0) (ys.2 ∙ sym (map-map shown of ys.0)) in
          subst (IsPermutation (map of (filter p (part t)))) (sym same) (IsPermutation-map of (filter p (part t)) ys.0 ys.1);
    }

-- ---- counts

every : {X : Type 0} (xs : List X) → filter (λ (x : X). true) xs ≡ xs
every [] = refl
every (x ∷ xs) = ap (λ l. x ∷ l) (every xs)

below : (n a most : ℕ) → n ≡ min a most → n < most → n ≡ a
below n a most is low = grind (arith)

-- the number of rows of the table that meet the condition
pub tells_count_of : {X : Type 0} (at : ℕ) (table : Table) (text : List ℕ) (terms : List Term) (names : List (List ℕ)) → CountsRows desk_layout at table text terms names
    → (item : X → Row) (part : Tables → List X) → ((t : Tables) → slice_get (contents t) at ≡ Some (map item (part t)))
    → (params : Row) (p : X → Bool) → ((x : X) → passes table terms params (item x) ≡ p x)
    → (old new : State) (n : ℕ) → IsCounted text params n old new → ReadsTables (λ t. n ≡ count_by p (part t)) old new
tells_count_of at table text terms names means item part has params p tested old new n f =
    let it = f.counts desk_layout at table terms names means in
    record {
      kept = turns desk_layout contents contents (λ c. c) old new it.0 (λ t. refl);
      tells = λ t sees.
          let all = passed table terms params item p tested (part t) ∙ length-filter p (part t) in
          below n (count_by p (part t)) 9223372036854775807 (it.1 (contents t) (map item (part t)) sees (has t) ∙ ap counted all) f.below;
    }

-- the number of rows of the table
pub tells_count : {X : Type 0} (at : ℕ) (table : Table) (text : List ℕ) (names : List (List ℕ)) → CountsRows desk_layout at table text [] names
    → (item : X → Row) (part : Tables → List X) → ((t : Tables) → slice_get (contents t) at ≡ Some (map item (part t)))
    → (old new : State) (n : ℕ) → IsCounted text [] n old new → ReadsTables (λ t. n ≡ length (part t)) old new
tells_count at table text names means item part has old new n f =
    let it = tells_count_of at table text [] names means item part has [] (λ _. true) (λ x. refl) old new n f in
    record { kept = it.kept; tells = λ t sees. it.tells t sees ∙ sym (length-filter (λ _. true) (part t)) ∙ ap length (every (part t)) }

-- ---- a table of one row

pub only_row : {X : Type 0} (x y : X) (found : Option X) → found ≡ Some y → x ∷ [] ≡ listed found → x ≡ y
only_row x y None is same = absurd cc
only_row x y (Some z) is same = let one : x ≡ z = cc in let two : z ≡ y = cc in one ∙ two

-- ---- calls, which are determined by their texts

-- the texts of calls are those of no call or of one, so that call is read back
pub one_told : {X Y : Type 0} (texts : X → Y) (P : X → Type 0) (xs : List X) → All P xs → (y : Y) → map texts xs ≡ y ∷ [] → (read : X) → ((x : X) → P x → y ≡ texts x → read ≡ x) → xs ≡ read ∷ []
one_told texts P [] all y is read told = absurd cc
one_told texts P (x ∷ []) all y is read told = let e : y ≡ texts x = cc in ap (λ z. z ∷ []) (sym (told x (All-head P x [] all) e))
one_told texts P (x ∷ z ∷ xs) all y is read told = absurd cc

pub none_told : {X Y : Type 0} (texts : X → Y) (xs : List X) → map texts xs ≡ [] → xs ≡ []
none_told texts [] is = refl
none_told texts (x ∷ xs) is = absurd cc
