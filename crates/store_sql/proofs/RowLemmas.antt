-- Stored rows, and what counts of them.
use Rattle.std.proofs.Common.{◌≡◌, inl, inr, ℕ, List, [], ◌∷◌, map, filter, not, Bool, cond, Option, Some, None, refl, sym, ap, ◌∙◌, IsTrue}
use Rattle.std.specs.List.{AllByRecursion}
use Rattle.std.proofs.lemmas.Bool.{cases_Bool}
use Rattle.sqlite.specs.Order.{Row}
use Rattle.sqlite.specs.Tree.{rowid}
use Rattle.sqlite_trees.specs.View.{is_int}
use Rattle.store_sql.specs.Contents.{by_key, with_rowid_by_key}
use Rattle.store_sql.specs.Meanings.{OverlooksRowid}

abbrev pub HaveRowids : List Row → Type 0
HaveRowids rows = AllByRecursion (λ (r : Row). IsTrue (is_int (rowid r))) rows

module _ {Y : Type 0} (key : Option ℕ) (f : Row → Y) (overlooks : OverlooksRowid key f) where
  -- a row is read the same without the row id if its reader overlooks it
  pub read_alike : (r : Row) → IsTrue (is_int (rowid r)) → f r ≡ f (with_rowid_by_key key (by_key key r))
  read_alike r has = elim key as (λ k. OverlooksRowid k f → f r ≡ f (with_rowid_by_key k (by_key k r))) [
    | Some _ ↦ λ _. refl
    | None ↦ λ over. row_alike r has over
  ] overlooks
    where
      row_alike : (r : Row) → IsTrue (is_int (rowid r)) → OverlooksRowid None f → f r ≡ f (with_rowid_by_key None (by_key None r))
      row_alike [] has over = absurd (let e = has in cc)
      row_alike (id ∷ r) has over = over id r

module _ (key : Option ℕ) (p : Row → Bool) (overlooks : OverlooksRowid key p) where
  abbrev passing : Row → Bool
  passing s = p (with_rowid_by_key key s)

  pub picked : {Y : Type 0} (f : Row → Y) → OverlooksRowid key f → (rows : List Row) → HaveRowids rows
      → map f (filter p rows) ≡ map (λ s. f (with_rowid_by_key key s)) (filter passing (map (by_key key) rows))
  picked f over [] has = refl
  picked f over (r ∷ rows) has =
      let later = picked f over rows has.1 in
      let test = read_alike key p overlooks r has.0 in
      elim (cases_Bool (p r)) [
        | inl is ↦ rw (is, sym test ∙ is) (ap (λ y. y ∷ map f (filter p rows)) (read_alike key f over r has.0) ∙ ap (λ l. f (with_rowid_by_key key (by_key key r)) ∷ l) later)
        | inr is ↦ rw (is, sym test ∙ is) later
      ]

  pub left_alike : (rows : List Row) → HaveRowids rows → map (by_key key) (filter (λ r. not (p r)) rows) ≡ filter (λ s. not (passing s)) (map (by_key key) rows)
  left_alike [] has = refl
  left_alike (r ∷ rows) has =
      let later = left_alike rows has.1 in
      let test = read_alike key p overlooks r has.0 in
      elim (cases_Bool (p r)) [
        | inl is ↦ rw (is, sym test ∙ is) later
        | inr is ↦ rw (is, sym test ∙ is) (ap (λ l. by_key key r ∷ l) later)
      ]

  pub changed_alike : (g : Row → Row) → OverlooksRowid key (λ r. by_key key (g r)) → (rows : List Row) → HaveRowids rows
      → map (by_key key) (map (λ r. cond (p r) (g r) r) rows) ≡ map (λ s. cond (passing s) (by_key key (g (with_rowid_by_key key s))) s) (map (by_key key) rows)
  changed_alike g over [] has = refl
  changed_alike g over (r ∷ rows) has =
      let later = changed_alike g over rows has.1 in
      let test = read_alike key p overlooks r has.0 in
      let made = read_alike key (λ r. by_key key (g r)) over r has.0 in
      elim (cases_Bool (p r)) [
        | inl is ↦ rw (is, sym test ∙ is, made, later) refl
        | inr is ↦ rw (is, sym test ∙ is, later) refl
      ]
