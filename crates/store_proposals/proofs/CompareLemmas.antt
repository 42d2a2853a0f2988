-- Rows that are compared with those that items are written as.
use Rattle.std.proofs.Common.{◌≡◌, ◌<◌, ◌≤◌, ℕ, zero, suc, ◌+◌, ◌==◌, ◌&&◌, Bool, true, false, bytes_eq, map, List, [], ◌∷◌, ◌++◌, take, length, get_or, slice_get, Some, refl, sym, ap, ap₂, ◌∙◌, add-one, arith}
use Rattle.std.proofs.Math.Seq.{take-suc}
use Rattle.std.proofs.lemmas.Bool.Decides.{nat_tests}
use Rattle.std.proofs.lemmas.Slice.Eq.{bytes_eq-Decides}
use Rattle.std.proofs.lemmas.List.{length-take-le, take_all}
use Rattle.std.proofs.lemmas.Option.{get_or_from_slice_get, slice_get_within}
use Rattle.sbat.specs.declared.component.Component.{Component}
use Rattle.desk_types.specs.Imports.{Imported}
use Rattle.desk_history.specs.declared.rows.ProposalItem.{ProposalItem}
use Rattle.desk_history.specs.declared.rows.ProposalItem.TheVariants as items
use Rattle.desk_history.specs.declared.rows.ProposalItemRow.{ProposalItemRow}
use Rattle.desk_history.specs.Items.{items_from, items_of}

-- the row of an item
abbrev row_of : ℕ → ℕ → ProposalItem → ProposalItemRow
row_of k place x = record { proposal = k; place = place; item = x }

items_more : (k p n : ℕ) (xs : List ProposalItem) (x : ProposalItem) → n ≡ p + length xs → items_from k p (xs ++ x ∷ []) ≡ items_from k p xs ++ row_of k n x ∷ []
items_more k p n [] x e = let same : p ≡ n = omega (arith, e) in ap (λ m. row_of k m x ∷ []) same
items_more k p n (y ∷ xs) x e = ap (λ l. row_of k p y ∷ l) (items_more k (p + 1) n xs x (omega (arith, e)))

more : {X : Type 0} (xs : List X) (i : ℕ) (x : X) → i < length xs → get_or xs i x ≡ x → take (i + 1) xs ≡ take i xs ++ x ∷ []
more xs i x low is = ap (λ n. take n xs) (add-one i) ∙ take-suc xs i x low ∙ ap (λ y. take i xs ++ y ∷ []) is

pub one_compared : (k i : ℕ) (rows : List ProposalItemRow) (all : List ProposalItem) (row : ProposalItemRow) → i < length rows → row ≡ get_or rows i row
    → row.proposal ≡ k → row.place ≡ i → slice_get all i ≡ Some row.item → take i rows ≡ items_from k 0 (take i all) → take (i + 1) rows ≡ items_from k 0 (take (i + 1) all)
one_compared k i rows all row low is of_it at_place there before =
    let within : i < length all = slice_get_within all i row.item there in
    let count : length (take i all) ≡ i = length-take-le i all (omega (arith, within)) in
    let same : row ≡ row_of k i row.item = ap₂ (λ a b. row_of a b row.item) of_it at_place in
    more rows i row low (sym is) ∙ ap₂ (λ l r. l ++ r ∷ []) before same
    ∙ sym (items_more k 0 i (take i all) row.item (omega (arith, count)))
    ∙ sym (ap (items_from k 0) (more all i row.item within (get_or_from_slice_get all i row.item row.item there)))

pub all_compared : (k i : ℕ) (rows : List ProposalItemRow) (all : List ProposalItem) → length rows ≡ length all → length rows ≤ i → take i rows ≡ items_from k 0 (take i all)
    → rows ≡ items_from k 0 all
all_compared k i rows all count high before =
    sym (take_all i rows high) ∙ before ∙ ap (items_from k 0) (take_all i all (omega (arith, count, high)))

-- ---- values that compare equal

pub same_bytes : (a b : List ℕ) → bytes_eq a b ≡ true → a ≡ b
same_bytes a b h = (bytes_eq-Decides a b).0 h

same_number : (a b : ℕ) → (a == b) ≡ true → a ≡ b
same_number a b h = grind (arith, nat_tests)

both_true : (a b : Bool) → (a && b) ≡ true → (a ≡ true) × (b ≡ true)
both_true true b h = (refl, h)
both_true false b h = absurd cc

pub same_component : (x y : Component) → (bytes_eq x.name y.name && (x.generation == y.generation)) ≡ true → x ≡ y
same_component x y h =
    let it = both_true (bytes_eq x.name y.name) (x.generation == y.generation) h in
    ap₂ (λ a b. record { name = a; generation = b }) (same_bytes x.name y.name it.0) (same_number x.generation y.generation it.1)

-- ---- the item at a place

mapped_at : {Y : Type 0} (f : Y → ProposalItem) (ys : List Y) (rest : List ProposalItem) (n : ℕ) (y : Y) → n < length ys → y ≡ get_or ys n y → slice_get (map f ys ++ rest) n ≡ Some (f y)
mapped_at f [] rest n y low is = absurd (omega (arith, low))
mapped_at f (z ∷ ys) rest zero y low is = ap (λ x. Some (f x)) (sym is)
mapped_at f (z ∷ ys) rest (suc n) y low is = mapped_at f ys rest n y (omega (arith, low)) is

mapped_last : {Y : Type 0} (f : Y → ProposalItem) (ys : List Y) (n : ℕ) (y : Y) → n < length ys → y ≡ get_or ys n y → slice_get (map f ys) n ≡ Some (f y)
mapped_last f [] n y low is = absurd (omega (arith, low))
mapped_last f (z ∷ ys) zero y low is = ap (λ x. Some (f x)) (sym is)
mapped_last f (z ∷ ys) (suc n) y low is = mapped_last f ys n y (omega (arith, low)) is

past : {Y : Type 0} (f : Y → ProposalItem) (ys : List Y) (rest : List ProposalItem) (n m : ℕ) → n ≡ length ys + m → slice_get (map f ys ++ rest) n ≡ slice_get rest m
past f [] rest n m e = ap (slice_get rest) (omega (arith, e))
past f (z ∷ ys) rest zero m e = absurd (omega (arith, e))
past f (z ∷ ys) rest (suc n) m e = past f ys rest n m (omega (arith, e))

module _ (i : Imported) where
  abbrev later : List ProposalItem
  later = map items.Certificate i.certificates ++ map items.Component i.components

  pub digest_at : (p : ℕ) (d : List ℕ) → p < length i.digests → d ≡ get_or i.digests p d → slice_get (items_of i) p ≡ Some (items.Digest d)
  digest_at p d low is = mapped_at items.Digest i.digests later p d low is

  pub certificate_at : (p n : ℕ) (d : List ℕ) → p ≡ length i.digests + n → n < length i.certificates → d ≡ get_or i.certificates n d → slice_get (items_of i) p ≡ Some (items.Certificate d)
  certificate_at p n d e low is =
      past items.Digest i.digests later p n e ∙ mapped_at items.Certificate i.certificates (map items.Component i.components) n d low is

  pub component_at : (p n m : ℕ) (x : Component) → p ≡ length i.digests + n → n ≡ length i.certificates + m → m < length i.components → x ≡ get_or i.components m x
      → slice_get (items_of i) p ≡ Some (items.Component x)
  component_at p n m x e f low is =
      past items.Digest i.digests later p n e ∙ past items.Certificate i.certificates (map items.Component i.components) n m f ∙ mapped_last items.Component i.components m x low is
