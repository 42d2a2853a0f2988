-- Exports in order: the same items, sorted by their keys.
use Rattle.std.proofs.Common.{◌≡◌, ℕ, Bool, true, false, not, ◌&&◌, cond, List, [], ◌∷◌, length, map, filter, refl, sym, ◌∙◌, true≢false}
use Rattle.std.specs.Prelude.{if◌then◌else◌, bytes_eq}
use Rattle.std.specs.Cmp.Lexicographic.{nat_list_cmp_total, slice_cmp}
use Rattle.std.specs.List.{AllByRecursion, list_any}
use Rattle.std.specs.List.Sorted.{IsPermutation, IsStrictlySortedBy}
use Rattle.std.specs.Ordering.{is_eq, is_le, nat_cmp, ordering_reverse}
use Rattle.std.specs.declared.cmp.Ordering.{Ordering}
use Rattle.std.specs.declared.cmp.Ordering.TheVariants.{Less, Equal, Greater}
use Rattle.std.proofs.lemmas.Bool.{and_parts}
use Rattle.std.proofs.lemmas.List.Elements.{All-from_recursion, recursion_from_All}
use Rattle.std.proofs.lemmas.List.Sorted.{All-permutation, IsPermutation-cons, IsPermutation-middle, IsPermutation-refl, IsPermutation-trans, length_permutation, list_any-IsPermutation}
use Rattle.std.proofs.lemmas.Map.Text.{is_eq-slice_cmp}
use Rattle.sbat.specs.declared.component.Component.{Component}
use Rattle.desk_types.specs.declared.kind.ListedKind.{ListedKind}
use Rattle.desk_types.specs.declared.kind.ListedKind.TheVariants as kinds
use Rattle.desk_history.specs.declared.rows.Entry.{Entry}
use Rattle.desk_history.specs.Calls.{History, are_apart, distinct, is_among, is_same_kind}
use Rattle.desk_history.specs.Level.{generations, names}
use Rattle.desk_history.specs.Listing.{has_entry, is_entry, listed}
use Rattle.desk_history.specs.Revocations.{is_revoked, revocations}
use Rattle.desk_history.specs.Tables.{level_rows}
use Rattle.desk_history.proofs.ListLemmas.{any_once, apart-more, none_left, none_right, once_apart, or_none}
use Rattle.desk_history.proofs.ListingLemmas.{apart, listed_apart}
use Rattle.desk_history.proofs.RowLemmas.{level_apart}
use Rattle.desk_exports.specs.Exports.{entries_of, level_components, revoked}
use Rattle.desk_exports.specs.Orders.{IsInOrder, ascending_by, in_place, is_before}

-- ---- texts by bytes

behind : (r s : Ordering) → s ≡ ordering_reverse r → is_le r ≡ false → s ≡ Less
behind Less s e h = absurd (true≢false h)
behind Equal s e h = absurd (true≢false h)
behind Greater s e h = e

ahead : (r : Ordering) → is_le r ≡ true → is_eq r ≡ false → r ≡ Less
ahead Less h k = refl
ahead Equal h k = absurd (true≢false k)
ahead Greater h k = absurd (true≢false (sym h))

-- a text that another doesn't precede is below it
below : (a b : List ℕ) → is_before a b ≡ false → slice_cmp nat_cmp b a ≡ Less
below a b h = behind (slice_cmp nat_cmp a b) (slice_cmp nat_cmp b a) (nat_list_cmp_total.antisymm b a) h

-- and so is one that precedes another, if they differ
below_other : (a b : List ℕ) → is_before a b ≡ true → bytes_eq a b ≡ false → slice_cmp nat_cmp a b ≡ Less
below_other a b h other = ahead (slice_cmp nat_cmp a b) h (is_eq-slice_cmp a b ∙ other)

denied : (b : Bool) → not b ≡ true → b ≡ false
denied false h = refl
denied true h = absurd (true≢false (sym h))

none_of_all : {X : Type 0} (p : X → Bool) (xs : List X) → list_any p xs ≡ false → AllByRecursion (λ x. p x ≡ false) xs
none_of_all p [] h = tt
none_of_all p (x ∷ xs) h = (none_left (p x) (list_any p xs) h, none_of_all p xs (none_right (p x) (list_any p xs) h))

pub all_moved : {X : Type 0} (P : X → Type 0) (xs ys : List X) → IsPermutation xs ys → AllByRecursion P xs → AllByRecursion P ys
all_moved P xs ys moved h = recursion_from_All P ys (All-permutation P xs ys moved (All-from_recursion P xs h))

-- ---- the sort

module _ {X : Type 0} (key : X → List ℕ) where
  abbrev by_key : X → X → Ordering
  by_key x y = slice_cmp nat_cmp (key x) (key y)

  abbrev same_key : X → X → Bool
  same_key x y = bytes_eq (key x) (key y)

  put_moved : (x : X) (xs : List X) → IsPermutation (x ∷ xs) (in_place key x xs)
  put_moved x [] = IsPermutation-refl (x ∷ [])
  put_moved x (y ∷ ys) = elim (is_before (key x) (key y)) as (λ b. IsPermutation (x ∷ y ∷ ys) (if b then x ∷ y ∷ ys else y ∷ in_place key x ys)) [
    | true ↦ IsPermutation-refl (x ∷ y ∷ ys)
    | false ↦ IsPermutation-trans (x ∷ y ∷ ys) (y ∷ x ∷ ys) (y ∷ in_place key x ys) (IsPermutation-middle (x ∷ []) y ys) (IsPermutation-cons y (x ∷ ys) (in_place key x ys) (put_moved x ys))
  ]

  -- it keeps all items
  pub sort_moved : (xs : List X) → IsPermutation xs (ascending_by key xs)
  sort_moved [] = IsPermutation-refl []
  sort_moved (x ∷ xs) =
      IsPermutation-trans (x ∷ xs) (x ∷ ascending_by key xs) (in_place key x (ascending_by key xs)) (IsPermutation-cons x xs (ascending_by key xs) (sort_moved xs)) (put_moved x (ascending_by key xs))

  pub length_ascending : (xs : List X) → length (ascending_by key xs) ≡ length xs
  length_ascending xs = length_permutation xs (ascending_by key xs) (sort_moved xs)

  below_all : (x y : X) → by_key x y ≡ Less → (zs : List X) → AllByRecursion (λ z. by_key y z ≡ Less) zs → AllByRecursion (λ z. by_key x z ≡ Less) zs
  below_all x y less [] h = tt
  below_all x y less (z ∷ zs) h = (nat_list_cmp_total.trans (key x) (key y) (key z) less h.0, below_all x y less zs h.1)

  put_ascends : (x : X) (ys : List X) → AllByRecursion (λ y. same_key x y ≡ false) ys → IsStrictlySortedBy by_key ys → IsStrictlySortedBy by_key (in_place key x ys)
  unfolding IsStrictlySortedBy
  put_ascends x [] other up = (tt, tt)
  put_ascends x (y ∷ ys) other up =
      elim (is_before (key x) (key y)) as (λ b. is_before (key x) (key y) ≡ b → IsStrictlySortedBy by_key (if b then x ∷ y ∷ ys else y ∷ in_place key x ys)) [
        | true ↦ λ e. (let less : by_key x y ≡ Less = below_other (key x) (key y) e other.0 in ((less, below_all x y less ys up.0), up))
        | false ↦ λ e. (
          all_moved (λ z. by_key y z ≡ Less) (x ∷ ys) (in_place key x ys) (put_moved x ys) (below (key x) (key y) e, up.0),
          put_ascends x ys other.1 up.1,
        )
      ] refl

  sort_ascends : (xs : List X) → are_apart same_key xs ≡ true → IsStrictlySortedBy by_key (ascending_by key xs)
  unfolding IsStrictlySortedBy
  sort_ascends [] h = tt
  sort_ascends (x ∷ xs) h =
      let parts : (not (list_any (same_key x) xs) ≡ true) × (are_apart same_key xs ≡ true) = and_parts (not (list_any (same_key x) xs)) (are_apart same_key xs) h in
      let other = none_of_all (same_key x) xs (denied (list_any (same_key x) xs) parts.0) in
      put_ascends x (ascending_by key xs) (all_moved (λ y. same_key x y ≡ false) xs (ascending_by key xs) (sort_moved xs) other) (sort_ascends xs parts.1)

  -- where no two items have one key, it puts them in order
  pub sorted : (xs : List X) → are_apart same_key xs ≡ true → IsInOrder key xs (ascending_by key xs)
  sorted xs h = record { ascends = sort_ascends xs h; same = sort_moved xs }

-- ---- revoked entries

pub revoked_in_order : (kind : ListedKind) (cs : History) → IsInOrder (λ digest. digest) (distinct (revocations kind cs)) (revoked kind cs)
revoked_in_order kind cs = sorted (λ digest. digest) (distinct (revocations kind cs)) (once_apart (revocations kind cs))

pub all_revoked : (kind : ListedKind) (cs : History) (digest : List ℕ) → is_among (revoked kind cs) digest ≡ is_revoked kind cs digest
all_revoked kind cs digest =
    let once : List (List ℕ) = distinct (revocations kind cs) in
    sym (list_any-IsPermutation (bytes_eq digest) once (revoked kind cs) (sort_moved (λ text. text) once)) ∙ any_once digest (revocations kind cs)

-- ---- listed entries

abbrev is_of : ListedKind → Entry → Bool
is_of kind e = is_same_kind kind e.kind

abbrev same_digest : Entry → Entry → Bool
same_digest d e = bytes_eq d.digest e.digest

-- entries of one kind that aren't one entry have other digests
other_digest : (kind a b : ListedKind) (same : Bool) → is_same_kind kind a ≡ true → is_same_kind kind b ≡ true → (is_same_kind a b && same) ≡ false → same ≡ false
other_digest kinds.Digest kinds.Digest kinds.Digest same h k other = other
other_digest kinds.Certificate kinds.Certificate kinds.Certificate same h k other = other
other_digest kinds.Digest kinds.Certificate b same h k other = absurd (true≢false (sym h))
other_digest kinds.Certificate kinds.Digest b same h k other = absurd (true≢false (sym h))
other_digest kinds.Digest kinds.Digest kinds.Certificate same h k other = absurd (true≢false (sym k))
other_digest kinds.Certificate kinds.Certificate kinds.Digest same h k other = absurd (true≢false (sym k))

none_of_kind : (kind : ListedKind) (x : Entry) → is_of kind x ≡ true → (es : List Entry) → has_entry x.kind x.digest es ≡ false → list_any (same_digest x) (filter (is_of kind) es) ≡ false
none_of_kind kind x is [] h = refl
none_of_kind kind x is (y ∷ es) h =
    let first : is_entry x.kind x.digest y ≡ false = none_left (is_entry x.kind x.digest y) (has_entry x.kind x.digest es) h in
    let rest : list_any (same_digest x) (filter (is_of kind) es) ≡ false = none_of_kind kind x is es (none_right (is_entry x.kind x.digest y) (has_entry x.kind x.digest es) h) in
    elim (is_of kind y) as (λ b. is_of kind y ≡ b → list_any (same_digest x) (cond b (y ∷ filter (is_of kind) es) (filter (is_of kind) es)) ≡ false) [
      | true ↦ λ e. or_none (same_digest x y) (list_any (same_digest x) (filter (is_of kind) es)) (other_digest kind x.kind y.kind (same_digest x y) is e first) rest
      | false ↦ λ e. rest
    ] refl

kind_apart : (kind : ListedKind) (es : List Entry) → apart es ≡ true → are_apart same_digest (filter (is_of kind) es) ≡ true
kind_apart kind [] h = refl
kind_apart kind (x ∷ es) h =
    let parts : (not (has_entry x.kind x.digest es) ≡ true) × (apart es ≡ true) = and_parts (not (has_entry x.kind x.digest es)) (apart es) h in
    let rest : are_apart same_digest (filter (is_of kind) es) ≡ true = kind_apart kind es parts.1 in
    elim (is_of kind x) as (λ b. is_of kind x ≡ b → are_apart same_digest (cond b (x ∷ filter (is_of kind) es) (filter (is_of kind) es)) ≡ true) [
      | true ↦ λ e. apart-more same_digest x (filter (is_of kind) es) (none_of_kind kind x e es (denied (has_entry x.kind x.digest es) parts.0)) rest
      | false ↦ λ e. rest
    ] refl

pub listed_in_order : (kind : ListedKind) (cs : History) → IsInOrder (λ (e : Entry). e.digest) (filter (is_of kind) (listed cs)) (entries_of kind cs)
listed_in_order kind cs = sorted (λ (e : Entry). e.digest) (filter (is_of kind) (listed cs)) (kind_apart kind (listed cs) (listed_apart cs))

-- ---- the level

pub level_in_order : (cs : History) → IsInOrder (λ (x : Component). x.name) (level_rows (generations cs)) (level_components cs)
level_in_order cs =
    let named = generations cs in
    sorted (λ (x : Component). x.name) (level_rows named) (level_apart named (names named) (once_apart (map (λ (x : Component). x.name) named)))
