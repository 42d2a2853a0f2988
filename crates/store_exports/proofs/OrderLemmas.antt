-- SQL's order of keys, which is that of exports.
use Rattle.std.proofs.Common.{◌≡◌, ℕ, pos, Bool, true, false, List, [], ◌∷◌, refl, sym, ap, ◌∙◌, true≢false}
use Rattle.std.specs.Prelude.{if◌then◌else◌}
use Rattle.std.specs.Cmp.{tied_itself, upto}
use Rattle.std.specs.Cmp.Lexicographic.{nat_list_cmp_total, same_text, slice_cmp, texts_ties}
use Rattle.std.specs.Ordering.{int_cmp, is_eq, is_gt, is_le, is_lt, nat_cmp, ordering_reverse, ordering_then}
use Rattle.std.specs.declared.cmp.Ordering.{Ordering}
use Rattle.std.specs.declared.cmp.Ordering.TheVariants.{Less, Equal, Greater}
use Rattle.sqlite.specs.declared.types.Value.TheVariants.{Int, Text, Blob}
use Rattle.sqlite_value.specs.Order.{value_cmp}
use Rattle.sqlite_value.proofs.OrderLemmas.{value_cmp-Blob, value_cmp-Int, value_cmp-Text}
use Rattle.sbat.specs.declared.component.Component.{Component}
use Rattle.desk_types.specs.Words.{kind_text}
use Rattle.desk_history.specs.declared.rows.Entry.{Entry}
use Rattle.store_schema.specs.rows.Values.{component_values, digest_values, entry_values}
use Rattle.desk_exports.specs.Orders.{ascending_by, in_place, is_before}
use Rattle.store_sql.specs.Queries.{by_keys}
use Rattle.store_schema.specs.Columns.{by_first}
use Rattle.store_schema.specs.Tables as tables
use Rattle.store_exports.specs.Lines.{Columns, columns_row}
use Rattle.store_exports.proofs.ArrangeLemmas.{arranged, placed}

-- ---- texts by bytes

-- an answer and that of the other way round
back_le : (r s : Ordering) → r ≡ ordering_reverse s → is_le r ≡ false → is_le s ≡ true
back_le r Less e h = refl
back_le r Equal e h = refl
back_le r Greater e h = absurd (true≢false (sym (ap is_le e) ∙ h))

not_above : (r : Ordering) → is_le r ≡ true → is_gt r ≡ false
not_above Less h = refl
not_above Equal h = refl
not_above Greater h = absurd (true≢false (sym h))

at_most : (r : Ordering) → is_gt r ≡ false → is_le r ≡ true
at_most Less h = refl
at_most Equal h = refl
at_most Greater h = absurd (true≢false h)

level : (r s : Ordering) → r ≡ ordering_reverse s → is_le r ≡ true → is_le s ≡ true → is_eq r ≡ true
level r Less e h k = absurd (true≢false (sym h ∙ ap is_le e))
level r Equal e h k = ap is_eq e
level r Greater e h k = absurd (true≢false (sym k))

not_below : (r s : Ordering) → r ≡ ordering_reverse s → is_lt s ≡ false → is_le r ≡ true
not_below r Less e h = absurd (true≢false h)
not_below r Equal e h = ap is_le e
not_below r Greater e h = ap is_le e

turned : (a b : List ℕ) → slice_cmp nat_cmp a b ≡ ordering_reverse (slice_cmp nat_cmp b a)
turned = nat_list_cmp_total.antisymm

pub before_total : (a b : List ℕ) → is_before a b ≡ false → is_before b a ≡ true
before_total a b h = back_le (slice_cmp nat_cmp a b) (slice_cmp nat_cmp b a) (turned a b) h

pub before_chains : (a b c : List ℕ) → is_before a b ≡ true → is_before b c ≡ true → is_before a c ≡ true
before_chains a b c h k = at_most (slice_cmp nat_cmp a c) (upto nat_list_cmp_total a b c (not_above (slice_cmp nat_cmp a b) h) (not_above (slice_cmp nat_cmp b c) k))

pub before_tie : (a b : List ℕ) → is_before a b ≡ true → is_before b a ≡ true → a ≡ b
before_tie a b h k = same_text a b (sym (texts_ties a b ∙ level (slice_cmp nat_cmp a b) (slice_cmp nat_cmp b a) (turned a b) h k))

pub before_of : (a b : List ℕ) → is_lt (slice_cmp nat_cmp b a) ≡ false → is_before a b ≡ true
before_of a b h = not_below (slice_cmp nat_cmp a b) (slice_cmp nat_cmp b a) (turned a b) h

-- ---- exports are arranged

module _ {X : Type 0} (key : X → List ℕ) where
  abbrev pub by_key : X → X → Bool
  by_key x y = is_before (key x) (key y)

  in_place-placed : (x : X) (l : List X) → in_place key x l ≡ placed by_key x l
  in_place-placed x [] = refl
  in_place-placed x (y ∷ ys) = ap (λ l. if is_before (key x) (key y) then x ∷ y ∷ ys else y ∷ l) (in_place-placed x ys)

  pub ascending-arranged : (xs : List X) → ascending_by key xs ≡ arranged by_key xs
  ascending-arranged [] = refl
  ascending-arranged (x ∷ xs) = in_place-placed x (ascending_by key xs) ∙ ap (placed by_key x) (ascending-arranged xs)

-- ---- SQL's orders

then_equal : (r : Ordering) → ordering_then r Equal ≡ r
then_equal Less = refl
then_equal Equal = refl
then_equal Greater = refl

pub digests_order : (x y : List ℕ) → by_keys (by_first 1 tables.revoked_digests) (digest_values x) (digest_values y) ≡ slice_cmp nat_cmp x y
digests_order x y = then_equal (value_cmp (Blob x) (Blob y)) ∙ value_cmp-Blob x y

pub certificates_order : (x y : List ℕ) → by_keys (by_first 1 tables.revoked_certificates) (digest_values x) (digest_values y) ≡ slice_cmp nat_cmp x y
certificates_order x y = then_equal (value_cmp (Blob x) (Blob y)) ∙ value_cmp-Blob x y

pub components_order : (x y : Component) → by_keys (by_first 1 tables.components) (component_values x) (component_values y) ≡ slice_cmp nat_cmp x.name y.name
components_order x y = then_equal (value_cmp (Text x.name) (Text y.name)) ∙ value_cmp-Text x.name y.name

pub entries_order : (x y : Entry) → x.kind ≡ y.kind → by_keys (by_first 2 tables.listed) (entry_values x) (entry_values y) ≡ slice_cmp nat_cmp x.digest y.digest
entries_order x y one =
    ap (λ r. ordering_then r (ordering_then (value_cmp (Blob x.digest) (Blob y.digest)) Equal)) kinds
    ∙ then_equal (value_cmp (Blob x.digest) (Blob y.digest)) ∙ value_cmp-Blob x.digest y.digest
  where
    kinds : value_cmp (Text (kind_text x.kind)) (Text (kind_text y.kind)) ≡ Equal
    kinds = value_cmp-Text (kind_text x.kind) (kind_text y.kind) ∙ ap (λ k. slice_cmp nat_cmp (kind_text x.kind) (kind_text k)) (sym one) ∙ tied_itself nat_list_cmp_total (kind_text x.kind)

pub calls_order : (x y : Columns) → by_keys (by_first 1 tables.calls) (columns_row x) (columns_row y) ≡ int_cmp (pos x.number) (pos y.number)
calls_order x y = then_equal (value_cmp (Int (pos x.number)) (Int (pos y.number))) ∙ value_cmp-Int (pos x.number) (pos y.number)
