-- Taking rows out by their rowids, and putting rows in where rowids are free.
use Rattle.std.proofs.Common.{◌≡◌, ℤ, List, [], ◌∷◌, ◌++◌, map, filter, Bool, true, false, not, ◌||◌, cond, Less, inl, inr, refl, sym, ap, ◌∙◌, IsTrue}
use Rattle.std.specs.List.{AllByRecursion, list_any}
use Rattle.std.specs.Ordering.{is_eq, ordering_reverse}
use Rattle.std.specs.List.Sorted.{IsPermutation}
use Rattle.std.proofs.lemmas.Bool.{cases_Bool, and_parts, not-true, or_from}
use Rattle.std.proofs.lemmas.Cmp.{tied_itself}
use Rattle.std.proofs.lemmas.List.Sorted.{IsPermutation-refl, IsPermutation-trans, IsPermutation-sym, IsPermutation-cons, IsPermutation-middle, IsPermutation-append_right, list_any-IsPermutation}
use Rattle.sqlite_value.specs.Order.{value_cmp}
use Rattle.sqlite_value.proofs.OrderLemmas.{value_cmp_total}
use Rattle.sqlite_trees.specs.Tree.{put_row, rowid, has_rowid, without_rowid}
use Rattle.sqlite_trees.specs.View.{is_int}
use Rattle.sqlite_trees.proofs.TreeLemmas.{IsShaped-put_row}
use Rattle.sqlite_trees.proofs.ListLemmas.{filter_all, filter_same, all_of, all_both}
use Rattle.sqlite_rules.specs.Edit.{id_in, without_all, put_all, numbered, are_fresh, have_rowids}
use Rattle.sqlite_rules.specs.declared.error.Rowids.TheVariants.{Given}
use Rattle.sqlite_rules.proofs.TableLemmas.{int_is}
use Rattle.sqlite.specs.Order.{Row}
use Rattle.store_sql.specs.Contents.{IsKeyed}
use Rattle.store_sql.proofs.InsertLemmas.{put_permutes}

-- ---- put in

pub put_all_permutes : (news rows : List Row) → are_fresh rows news ≡ true → IsPermutation (news ++ rows) (put_all rows news)
put_all_permutes [] rows fresh = IsPermutation-refl rows
put_all_permutes (n ∷ news) rows fresh =
    let parts = and_parts _ _ fresh in
    IsPermutation-trans _ _ _ (IsPermutation-sym _ _ (IsPermutation-middle news n rows))
    (IsPermutation-trans _ _ _ (IsPermutation-append_right news _ _ (put_permutes n rows (not-true _ parts.0))) (put_all_permutes news (put_row n rows) parts.1))

pub put_all_keyed : (news rows : List Row) → have_rowids news ≡ true → IsKeyed rows → IsKeyed (put_all rows news)
put_all_keyed [] rows keyed h = h
put_all_keyed (n ∷ news) rows keyed h = let parts = and_parts _ _ keyed in put_all_keyed news (put_row n rows) parts.1 (IsShaped-put_row n rows parts.0 h)

pub numbered_given : (rows news : List Row) → numbered Given rows news ≡ news
numbered_given rows [] = refl
numbered_given rows (n ∷ news) = ap (λ l. n ∷ l) (numbered_given (put_row n rows) news)

-- ---- taken out

abbrev pub has_some : List ℤ → Row → Bool
has_some ids r = list_any (λ id. has_rowid id r) ids

filter_twice : (p q : Row → Bool) (rows : List Row) → filter (λ r. not (q r)) (filter (λ r. not (p r)) rows) ≡ filter (λ r. not (p r || q r)) rows
filter_twice p q [] = refl
filter_twice p q (x ∷ rows) = elim (cases_Bool (p x)) [
  | inl is ↦ rw is (filter_twice p q rows)
  | inr is ↦ elim (cases_Bool (q x)) [
    | inl also ↦ rw (is, also) (filter_twice p q rows)
    | inr other ↦ rw (is, other) (ap (λ l. x ∷ l) (filter_twice p q rows))
  ]
]

without_as_filter : (ids : List ℤ) (rows : List Row) → without_all rows ids ≡ filter (λ r. not (has_some ids r)) rows
without_as_filter [] rows = sym (filter_all (λ r. not (has_some [] r)) rows (all_of _ (λ r. refl) rows))
without_as_filter (id ∷ ids) rows = without_as_filter ids (without_rowid id rows) ∙ filter_twice (has_rowid id) (has_some ids) rows

own_rowid : (x : Row) → IsTrue (is_int (rowid x)) → has_rowid (id_in (rowid x)) x ≡ true
own_rowid x keyed = ap is_eq (ap (value_cmp (rowid x)) (sym (int_is (rowid x) keyed)) ∙ tied_itself value_cmp_total (rowid x))

not_above : (x r : Row) → IsTrue (is_int (rowid x)) → value_cmp (rowid x) (rowid r) ≡ Less → has_rowid (id_in (rowid x)) r ≡ false
not_above x r keyed low = ap is_eq (ap (value_cmp (rowid r)) (sym (int_is (rowid x) keyed)) ∙ value_cmp_total.antisymm (rowid r) (rowid x) ∙ ap ordering_reverse low)

not_below : (x r : Row) → IsTrue (is_int (rowid r)) → value_cmp (rowid x) (rowid r) ≡ Less → has_rowid (id_in (rowid r)) x ≡ false
not_below x r keyed low = ap is_eq (ap (value_cmp (rowid x)) (sym (int_is (rowid r) keyed)) ∙ low)

module _ (p : Row → Bool) where
  -- the rowids of the rows that pass
  abbrev pub ids : List Row → List ℤ
  ids rows = map (λ r. id_in (rowid r)) (filter p rows)

  none_later : (x : Row) (rows : List Row) → AllByRecursion (λ (r : Row). value_cmp (rowid x) (rowid r) ≡ Less) rows → AllByRecursion (λ (r : Row). IsTrue (is_int (rowid r))) rows → has_some (ids rows) x ≡ false
  none_later x [] low keyed = refl
  none_later x (r ∷ rows) low keyed = elim (cases_Bool (p r)) [
    | inl is ↦ rw is (or_from _ _ (not_below x r keyed.0 low.0) (none_later x rows low.1 keyed.1))
    | inr is ↦ rw is (none_later x rows low.1 keyed.1)
  ]

  first : (x : Row) (rows : List Row) → IsTrue (is_int (rowid x)) → has_some (ids rows) x ≡ false → has_some (ids (x ∷ rows)) x ≡ p x
  first x rows keyed none = elim (cases_Bool (p x)) [
    | inl is ↦ rw (is, own_rowid x keyed) refl
    | inr is ↦ rw is none
  ]

  later : (x : Row) (rows : List Row) (r : Row) → IsTrue (is_int (rowid x)) → value_cmp (rowid x) (rowid r) ≡ Less → has_some (ids rows) r ≡ p r → has_some (ids (x ∷ rows)) r ≡ p r
  later x rows r keyed low same = elim (cases_Bool (p x)) [
    | inl is ↦ rw (is, not_above x r keyed low) same
    | inr is ↦ rw is same
  ]

  -- a row has one of the rowids exactly if it passes
  exactly : (rows : List Row) → IsKeyed rows → AllByRecursion (λ (r : Row). has_some (ids rows) r ≡ p r) rows
  exactly [] h = tt
  exactly (x ∷ rows) h = (
    first x rows h.1.0 (none_later x rows h.0.0 h.1.1),
    all_both (λ (r : Row). value_cmp (rowid x) (rowid r) ≡ Less) (λ (r : Row). has_some (ids rows) r ≡ p r) (λ (r : Row). has_some (ids (x ∷ rows)) r ≡ p r)
        (λ r. later x rows r h.1.0) rows h.0.0 (exactly rows (h.0.1, h.1.1)),
  )

  -- the rows that are left are those that don't pass
  pub left_over : (rows : List Row) (found : List ℤ) → IsKeyed rows → IsPermutation (ids rows) found → without_all rows found ≡ filter (λ r. not (p r)) rows
  left_over rows found keyed same =
      without_as_filter found rows
      ∙ all_filter (λ r. sym (list_any-IsPermutation (λ id. has_rowid id r) (ids rows) found same)) rows
      ∙ filter_same (λ r. not (has_some (ids rows) r)) (λ r. not (p r)) rows (negated rows (exactly rows keyed))
    where
      all_filter : ((r : Row) → has_some found r ≡ has_some (ids rows) r) → (l : List Row) → filter (λ r. not (has_some found r)) l ≡ filter (λ r. not (has_some (ids rows) r)) l
      all_filter h l = filter_same _ _ l (all_of _ (λ r. ap not (h r)) l)

      negated : (l : List Row) → AllByRecursion (λ (r : Row). has_some (ids rows) r ≡ p r) l → AllByRecursion (λ (r : Row). not (has_some (ids rows) r) ≡ not (p r)) l
      negated [] h = tt
      negated (x ∷ l) h = (ap not h.0, negated l h.1)

  -- rows that are changed one by one are those that are taken out and put in again
  pub in_place : (g : Row → Row) (rows : List Row) → IsPermutation (map (λ r. cond (p r) (g r) r) rows) (map g (filter p rows) ++ filter (λ r. not (p r)) rows)
  in_place g [] = IsPermutation-refl []
  in_place g (x ∷ rows) = elim (cases_Bool (p x)) [
    | inl is ↦ rw is (IsPermutation-cons (g x) _ _ (in_place g rows))
    | inr is ↦ rw is (IsPermutation-trans _ _ _ (IsPermutation-cons x _ _ (in_place g rows)) (IsPermutation-sym _ _ (IsPermutation-middle (map g (filter p rows)) x (filter (λ r. not (p r)) rows))))
  ]
