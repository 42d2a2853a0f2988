-- The lists of a history's tables, in the order of exports.
use Rattle.std.proofs.Common.{◌≡◌, ◌≤◌, ◌+◌, ℕ, pos, Bool, true, false, not, ◌&&◌, ◌||◌, List, [], ◌∷◌, ◌++◌, map, filter, flat_map, length, reverse, bytes_eq, refl, sym, ap, ap₂, subst, ◌∙◌, arith, nat_le, true≢false}
use Rattle.std.specs.Prelude.{if◌then◌else◌, ⊤}
use Rattle.std.specs.List.{AllByRecursion, list_any}
use Rattle.std.specs.List.Sorted.{IsPermutation, IsSorted}
use Rattle.std.specs.Cmp.Lexicographic.{slice_cmp}
use Rattle.std.specs.Ordering.{int_cmp, is_lt, nat_cmp}
use Rattle.std.specs.declared.cmp.Ordering.{Ordering}
use Rattle.std.proofs.lemmas.Bool.{and_parts, or_parts}
use Rattle.std.proofs.lemmas.Bool.Decides.{nat_tests}
use mathlib.Core.List.{reverse-cons}
use Rattle.std.proofs.lemmas.List.Concat.{flat_map-append}
use Rattle.std.proofs.lemmas.List.Sorted.{IsPermutation-reverse}
use Rattle.sbat.specs.declared.component.Component.{Component}
use Rattle.desk_types.specs.declared.kind.ListedKind.{ListedKind}
use Rattle.desk_types.specs.declared.kind.ListedKind.TheVariants as kinds
use Rattle.desk_history.specs.declared.rows.Entry.{Entry}
use Rattle.desk_history.specs.declared.rows.Minute.{Minute}
use Rattle.desk_history.specs.Calls.{History, are_apart, is_same_kind}
use Rattle.desk_history.specs.Level.{names}
use Rattle.desk_history.specs.Listing.{is_entry, listed}
use Rattle.desk_history.specs.Replies.{minute_of, minutes}
use Rattle.desk_history.specs.Tables.{level_row, level_rows}
use Rattle.desk_history.proofs.ListLemmas.{bytes_eq-refl, once_apart}
use Rattle.desk_history.proofs.ListingLemmas.{listed_apart}
use Rattle.store_schema.specs.rows.Values.{component_values, entry_values}
use Rattle.desk_exports.specs.Exports.{entries_of, minute_line}
use Rattle.desk_exports.specs.Orders.{ascending, ascending_by}
use Rattle.store_sql.specs.Queries.{by_keys}
use Rattle.store_schema.specs.Columns.{by_first}
use Rattle.store_schema.specs.Tables as tables
use Rattle.store_exports.specs.Lines.{Columns, columns_of, columns_row, line}
use Rattle.store_exports.proofs.ArrangeLemmas.{Apart, Rises, Tie, all_any, all_permuted, arranged, arranged_one, rises_of}
use Rattle.store_exports.proofs.OrderLemmas.{ascending-arranged, before_chains, before_of, before_tie, before_total, by_key, calls_order, components_order, entries_order}

-- every row
pub every : {X : Type 0} (xs : List X) → filter (λ (x : X). true) xs ≡ xs
every [] = refl
every (x ∷ xs) = ap (λ l. x ∷ l) (every xs)

-- ---- digests

apart_any : (ds : List (List ℕ)) → Apart (by_key (λ t. t)) ds
apart_any [] = tt
apart_any (d ∷ ds) = (all_any (Tie (by_key (λ t. t)) d) (λ e. before_tie d e) ds, apart_any ds)

pub digests_in_order : (cmp : List ℕ → List ℕ → Ordering) → ((x y : List ℕ) → cmp x y ≡ slice_cmp nat_cmp x y) → (ds ys : List (List ℕ)) → IsPermutation (filter (λ _. true) ds) ys → IsSorted cmp ys
    → ys ≡ ascending ds
digests_in_order cmp same ds ys moved sorted =
    arranged_one (by_key (λ t. t)) before_total before_chains ds ys (subst (λ l. IsPermutation l ys) (every ds) moved) (apart_any ds)
    (rises_of (by_key (λ t. t)) (λ x y. is_lt (cmp x y)) (λ _. ⊤) (λ x y _ _ h. before_of x y (sym (ap is_lt (same y x)) ∙ h)) ys (all_any (λ _. ⊤) (λ _. tt) ys) sorted)
    ∙ sym (ascending-arranged (λ t. t) ds)

-- ---- rows that are apart by their keys

module _ {X : Type 0} (same : X → X → Bool) (le : X → X → Bool) (p : X → Bool) (clash : (x y : X) → p x ≡ true → p y ≡ true → le x y ≡ true → le y x ≡ true → same x y ≡ true) where
  cond_tie : (x y : X) (ys : List X) (b : Bool) → p y ≡ b → (p y ≡ true → Tie le x y) → AllByRecursion (Tie le x) ys → AllByRecursion (Tie le x) (if b then y ∷ ys else ys)
  cond_tie x y ys true is one more = (one is, more)
  cond_tie x y ys false is one more = more

  ties : (x : X) (xs : List X) → p x ≡ true → list_any (same x) xs ≡ false → AllByRecursion (Tie le x) (filter p xs)
  ties x [] is h = tt
  ties x (y ∷ ys) is h =
      let parts : (same x y ≡ false) × (list_any (same x) ys ≡ false) = or_parts (same x y) (list_any (same x) ys) h in
      cond_tie x y (filter p ys) (p y) refl (λ also low high. absurd (true≢false (sym (clash x y is also low high) ∙ parts.0))) (ties x ys is parts.1)

  cond_apart : (x : X) (xs : List X) (b : Bool) → p x ≡ b → (p x ≡ true → AllByRecursion (Tie le x) xs) → Apart le xs → Apart le (if b then x ∷ xs else xs)
  cond_apart x xs true is one more = (one is, more)
  cond_apart x xs false is one more = more

  denied : (b : Bool) → not b ≡ true → b ≡ false
  denied true h = absurd (true≢false (sym h))
  denied false h = refl

  pub apart_filter : (xs : List X) → are_apart same xs ≡ true → Apart le (filter p xs)
  apart_filter [] h = tt
  apart_filter (x ∷ xs) h =
      let both : (not (list_any (same x) xs) ≡ true) × (are_apart same xs ≡ true) = and_parts (not (list_any (same x) xs)) (are_apart same xs) h in
      cond_apart x (filter p xs) (p x) refl (λ is. ties x xs is (denied (list_any (same x) xs) both.0)) (apart_filter xs both.1)

-- ---- components

named_any : (named : List Component) (t : List ℕ) (ts : List (List ℕ)) → list_any (λ (b : Component). bytes_eq t b.name) (map (level_row named) ts) ≡ list_any (bytes_eq t) ts
named_any named t [] = refl
named_any named t (u ∷ ts) = ap (λ b. bytes_eq t u || b) (named_any named t ts)

named_apart : (named : List Component) (ts : List (List ℕ)) → are_apart (λ (a b : Component). bytes_eq a.name b.name) (map (level_row named) ts) ≡ are_apart bytes_eq ts
named_apart named [] = refl
named_apart named (t ∷ ts) = ap₂ (λ a b. not a && b) (named_any named t ts) (named_apart named ts)

pub components_in_order : (named : List Component) (ys : List Component) → IsPermutation (filter (λ _. true) (level_rows named)) ys
    → IsSorted (λ x y. by_keys (by_first 1 tables.components) (component_values x) (component_values y)) ys → ys ≡ ascending_by (λ (x : Component). x.name) (level_rows named)
components_in_order named ys moved sorted =
    let rows = level_rows named in
    let le = by_key (λ (x : Component). x.name) in
    let apart : Apart le (filter (λ _. true) rows) = apart_filter (λ a b. bytes_eq a.name b.name) le (λ _. true)
    (λ x y _ _ low high. ap (bytes_eq x.name) (sym (before_tie x.name y.name low high)) ∙ bytes_eq-refl x.name) rows
    (named_apart named (names named) ∙ once_apart (map (λ x. x.name) named)) in
    arranged_one le (λ x y h. before_total x.name y.name h) (λ x y z h k. before_chains x.name y.name z.name h k) (filter (λ _. true) rows) ys moved apart
    (rises_of le (λ x y. is_lt (by_keys (by_first 1 tables.components) (component_values x) (component_values y))) (λ _. ⊤)
    (λ x y _ _ h. before_of x.name y.name (sym (ap is_lt (components_order y x)) ∙ h)) ys (all_any (λ _. ⊤) (λ _. tt) ys) sorted)
    ∙ ap (arranged le) (every rows) ∙ sym (ascending-arranged (λ (x : Component). x.name) rows)

-- ---- entries

one_kind : (k a b : ListedKind) → is_same_kind k a ≡ true → is_same_kind k b ≡ true → a ≡ b
one_kind kinds.Digest kinds.Digest kinds.Digest h j = refl
one_kind kinds.Digest kinds.Digest kinds.Certificate h j = absurd (true≢false (sym j))
one_kind kinds.Digest kinds.Certificate b h j = absurd (true≢false (sym h))
one_kind kinds.Certificate kinds.Digest b h j = absurd (true≢false (sym h))
one_kind kinds.Certificate kinds.Certificate kinds.Digest h j = absurd (true≢false (sym j))
one_kind kinds.Certificate kinds.Certificate kinds.Certificate h j = refl

same_itself : (k : ListedKind) → is_same_kind k k ≡ true
same_itself kinds.Digest = refl
same_itself kinds.Certificate = refl

one_entry : (k : ListedKind) (x y : Entry) → is_same_kind k x.kind ≡ true → is_same_kind k y.kind ≡ true → x.digest ≡ y.digest → is_entry x.kind x.digest y ≡ true
one_entry k x y h j is =
    ap₂ (λ a b. a && b) (ap (is_same_kind x.kind) (sym (one_kind k x.kind y.kind h j)) ∙ same_itself x.kind) (ap (bytes_eq x.digest) (sym is) ∙ bytes_eq-refl x.digest)

filtered : {X : Type 0} (p : X → Bool) (xs : List X) → AllByRecursion (λ x. p x ≡ true) (filter p xs)
filtered p [] = tt
filtered p (x ∷ xs) =
    elim (p x) as (λ b. p x ≡ b → AllByRecursion (λ x. p x ≡ true) (if b then x ∷ filter p xs else filter p xs)) [
      | true ↦ λ is. (is, filtered p xs)
      | false ↦ λ is. filtered p xs
    ] refl

pub entries_in_order : (k : ListedKind) (cs : History) (ys : List Entry) → IsPermutation (filter (λ e. is_same_kind k e.kind) (listed cs)) ys
    → IsSorted (λ x y. by_keys (by_first 2 tables.listed) (entry_values x) (entry_values y)) ys → ys ≡ entries_of k cs
entries_in_order k cs ys moved sorted =
    let p : Entry → Bool = λ e. is_same_kind k e.kind in
    let rows = filter p (listed cs) in
    let le = by_key (λ (e : Entry). e.digest) in
    let apart : Apart le rows = apart_filter (λ (a b : Entry). is_entry a.kind a.digest b) le p
    (λ x y h j low high. one_entry k x y h j (before_tie x.digest y.digest low high)) (listed cs) (listed_apart cs) in
    arranged_one le (λ x y h. before_total x.digest y.digest h) (λ x y z h j. before_chains x.digest y.digest z.digest h j) rows ys moved apart
    (rises_of le (λ x y. is_lt (by_keys (by_first 2 tables.listed) (entry_values x) (entry_values y))) (λ e. p e ≡ true)
    (λ x y h j low. before_of x.digest y.digest (sym (ap is_lt (entries_order y x (one_kind k y.kind x.kind j h))) ∙ low)) ys
    (all_permuted (λ e. p e ≡ true) rows ys moved (filtered p (listed cs))) sorted)
    ∙ sym (ascending-arranged (λ (e : Entry). e.digest) rows)

-- ---- calls

abbrev numbered : Columns → Columns → Bool
numbered x y = nat_le x.number y.number

-- the calls, the newest first, by their texts
abbrev pub called : History → List Columns
called cs = map columns_of (minutes cs)

below_all : (cs : History) (n : ℕ) → length cs ≤ n → AllByRecursion (λ (m : Columns). m.number ≤ n) (called cs)
below_all [] n h = tt
below_all (i ∷ cs) n h = (omega arith, below_all cs n (omega arith))

above_all : (n : ℕ) (x : Columns) (ms : List Columns) → x.number ≡ n + 1 → AllByRecursion (λ (m : Columns). m.number ≤ n) ms → AllByRecursion (Tie numbered x) ms
above_all n x [] is h = tt
above_all n x (m ∷ ms) is h = ((λ low high. (let a : x.number ≤ m.number = grind (arith, nat_tests) in absurd (omega (arith, h.0)))), above_all n x ms is h.1)

calls_apart : (cs : History) → Apart numbered (called cs)
calls_apart [] = tt
calls_apart (i ∷ cs) = (above_all (length cs) (columns_of (minute_of cs i)) (called cs) refl (below_all cs (length cs) (omega arith)), calls_apart cs)

rises_push : (xs : List Columns) (x : Columns) → Rises numbered xs → AllByRecursion (λ (m : Columns). m.number ≤ x.number) xs → Rises numbered (xs ++ x ∷ [])
rises_push [] x h all = tt
rises_push (y ∷ []) x h all = (let low : y.number ≤ x.number = all.0 in (grind (arith, nat_tests), tt))
rises_push (y ∷ z ∷ zs) x h all = (h.0, rises_push (z ∷ zs) x h.1 all.1)

reversed : (cs : History) → Rises numbered (reverse (called cs))
reversed [] = tt
reversed (i ∷ cs) =
    let m = columns_of (minute_of cs i) in
    subst (Rises numbered) (sym (reverse-cons m (called cs)))
    (rises_push (reverse (called cs)) m (reversed cs) (all_permuted (λ (x : Columns). x.number ≤ m.number) (called cs) (reverse (called cs)) (IsPermutation-reverse (called cs)) (below_all cs (length cs + 1) (omega arith))))

numbers_up : (x y : Columns) → is_lt (int_cmp (pos y.number) (pos x.number)) ≡ false → numbered x y ≡ true
numbers_up x y h = grind (arith, nat_tests)

numbers_total : (x y : Columns) → numbered x y ≡ false → numbered y x ≡ true
numbers_total x y h = grind (arith, nat_tests)

numbers_chain : (x y z : Columns) → numbered x y ≡ true → numbered y z ≡ true → numbered x z ≡ true
numbers_chain x y z h k = grind (arith, nat_tests)

pub calls_in_order : (cs : History) (ys : List Columns) → IsPermutation (filter (λ _. true) (called cs)) ys
    → IsSorted (λ x y. by_keys (by_first 1 tables.calls) (columns_row x) (columns_row y)) ys → ys ≡ reverse (called cs)
calls_in_order cs ys moved sorted =
    let ms = called cs in
    arranged_one numbered numbers_total numbers_chain ms ys (subst (λ l. IsPermutation l ys) (every ms) moved) (calls_apart cs)
    (rises_of numbered (λ x y. is_lt (by_keys (by_first 1 tables.calls) (columns_row x) (columns_row y))) (λ _. ⊤)
    (λ x y _ _ h. numbers_up x y (sym (ap is_lt (calls_order y x)) ∙ h)) ys (all_any (λ _. ⊤) (λ _. tt) ys) sorted)
    ∙ sym (arranged_one numbered numbers_total numbers_chain ms (reverse ms) (IsPermutation-reverse ms) (calls_apart cs) (reversed cs))

-- the lines of the minutes are those of their texts
pub lines_of : (ms : List Minute) → flat_map line (reverse (map columns_of ms)) ≡ flat_map minute_line (reverse ms)
lines_of [] = refl
lines_of (m ∷ ms) =
    ap (flat_map line) (reverse-cons (columns_of m) (map columns_of ms)) ∙ flat_map-append line (reverse (map columns_of ms)) (columns_of m ∷ [])
    ∙ ap (λ l. l ++ flat_map line (columns_of m ∷ [])) (lines_of ms)
    ∙ sym (ap (flat_map minute_line) (reverse-cons m ms) ∙ flat_map-append minute_line (reverse ms) (m ∷ []))
