-- The import of a proposal, as its items determine it.
use Rattle.std.proofs.Common.{◌≡◌, ◌<◌, ℕ, ◌+◌, List, [], ◌∷◌, ◌++◌, map, Option, Some, None, refl, sym, ap, ap₂, ◌∙◌, append-nil, arith}
use Rattle.std.specs.Prelude.{IfSome, unwrap_or}
use Rattle.std.specs.List.{AllByRecursion, cons_option, filter_map}
use Rattle.std.specs.List.Sorted.{IsPermutation}
use Rattle.std.proofs.lemmas.List.Sorted.{Contains-permutation, IsPermutation-sym}
use Rattle.sbat.specs.declared.component.Component.{Component}
use Rattle.desk_types.specs.Imports.{Imported}
use Rattle.desk_history.specs.declared.rows.ProposalItem.{ProposalItem}
use Rattle.desk_history.specs.declared.rows.ProposalItem.TheVariants as items
use Rattle.desk_history.specs.declared.rows.ProposalItemRow.{ProposalItemRow}
use Rattle.desk_history.specs.Items.{items_from, items_of}
use Rattle.store_reads.proofs.PartLemmas.{Ascends, one_order}
use Rattle.store_proposals.specs.Reading.{IsStampOf}

-- ---- items by kind

module _ {Y : Type 0} (f : ProposalItem → Option Y) where
  picks : (c : Y → ProposalItem) → ((y : Y) → f (c y) ≡ Some y) → (ys : List Y) (rest : List ProposalItem) → filter_map f (map c ys ++ rest) ≡ ys ++ filter_map f rest
  picks c all [] rest = refl
  picks c all (y ∷ ys) rest = ap (λ o. cons_option o (filter_map f (map c ys ++ rest))) (all y) ∙ ap (λ l. y ∷ l) (picks c all ys rest)

  skips : {Z : Type 0} (c : Z → ProposalItem) → ((z : Z) → f (c z) ≡ None) → (zs : List Z) (rest : List ProposalItem) → filter_map f (map c zs ++ rest) ≡ filter_map f rest
  skips c none [] rest = refl
  skips c none (z ∷ zs) rest = ap (λ o. cons_option o (filter_map f (map c zs ++ rest))) (none z) ∙ skips c none zs rest

abbrev as_digest : ProposalItem → Option (List ℕ)
as_digest (items.Digest d) = Some d
as_digest (items.Certificate d) = None
as_digest (items.Component x) = None

abbrev as_certificate : ProposalItem → Option (List ℕ)
as_certificate (items.Digest d) = None
as_certificate (items.Certificate d) = Some d
as_certificate (items.Component x) = None

abbrev as_component : ProposalItem → Option Component
as_component (items.Digest d) = None
as_component (items.Certificate d) = None
as_component (items.Component x) = Some x

-- the items, with nothing after them
ended : (i : Imported) → items_of i ≡ map items.Digest i.digests ++ (map items.Certificate i.certificates ++ (map items.Component i.components ++ []))
ended i = ap (λ l. map items.Digest i.digests ++ (map items.Certificate i.certificates ++ l)) (sym (append-nil (map items.Component i.components)))

digests_in : (i : Imported) → filter_map as_digest (items_of i) ≡ i.digests
digests_in i =
    ap (filter_map as_digest) (ended i)
    ∙ picks as_digest items.Digest (λ d. refl) i.digests (map items.Certificate i.certificates ++ (map items.Component i.components ++ []))
    ∙ ap (λ l. i.digests ++ l) (skips as_digest items.Certificate (λ d. refl) i.certificates (map items.Component i.components ++ []) ∙ skips as_digest items.Component (λ x. refl) i.components [])
    ∙ append-nil i.digests

certificates_in : (i : Imported) → filter_map as_certificate (items_of i) ≡ i.certificates
certificates_in i =
    ap (filter_map as_certificate) (ended i)
    ∙ skips as_certificate items.Digest (λ d. refl) i.digests (map items.Certificate i.certificates ++ (map items.Component i.components ++ []))
    ∙ picks as_certificate items.Certificate (λ d. refl) i.certificates (map items.Component i.components ++ [])
    ∙ ap (λ l. i.certificates ++ l) (skips as_certificate items.Component (λ x. refl) i.components [])
    ∙ append-nil i.certificates

components_in : (i : Imported) → filter_map as_component (items_of i) ≡ i.components
components_in i =
    ap (filter_map as_component) (ended i)
    ∙ skips as_component items.Digest (λ d. refl) i.digests (map items.Certificate i.certificates ++ (map items.Component i.components ++ []))
    ∙ skips as_component items.Certificate (λ d. refl) i.certificates (map items.Component i.components ++ [])
    ∙ picks as_component items.Component (λ x. refl) i.components []
    ∙ append-nil i.components

-- ---- the stamp

pub same_stamp : (n : ℕ) (a b : Option ℕ) → IsStampOf n a → unwrap_or b 0 ≡ n → IfSome b (λ s. 0 < s) → a ≡ b
same_stamp n a None is same h = is.1 (sym same)
same_stamp n None (Some s) is same h = absurd (omega (arith, is.0, same, h))
same_stamp n (Some r) (Some s) is same h = ap Some (is.0 ∙ sym same)

-- an import is determined by its items, its stamp and the number of entries that were skipped
pub same_named : (i j : Imported) → i.stamp ≡ j.stamp → i.passed ≡ j.passed → items_of i ≡ items_of j → i ≡ j
same_named i j stamp passed named =
    let digests : i.digests ≡ j.digests = sym (digests_in i) ∙ ap (filter_map as_digest) named ∙ digests_in j in
    let certificates : i.certificates ≡ j.certificates = sym (certificates_in i) ∙ ap (filter_map as_certificate) named ∙ certificates_in j in
    let components : i.components ≡ j.components = sym (components_in i) ∙ ap (filter_map as_component) named ∙ components_in j in
    ap₂ (λ a b. record i { stamp = a; passed = b }) stamp passed ∙ ap₂ (λ a b. record j { digests = a; certificates = b; components = i.components }) digests certificates
    ∙ ap (λ a. record j { components = a }) components

-- ---- items by their rows

places_above : (k p q : ℕ) (xs : List ProposalItem) → p < q → AllByRecursion (λ (y : ProposalItemRow). p < y.place) (items_from k q xs)
places_above k p q [] h = tt
places_above k p q (x ∷ xs) h = (h, places_above k p (q + 1) xs (omega (arith, h)))

places_ascend : (k p : ℕ) (xs : List ProposalItem) → Ascends (λ (y : ProposalItemRow). y.place) (items_from k p xs)
places_ascend k p [] = tt
places_ascend k p (x ∷ xs) = (places_above k p (p + 1) xs (omega arith), places_ascend k (p + 1) xs)

unplaced : (k p : ℕ) (xs : List ProposalItem) → map (λ (y : ProposalItemRow). y.item) (items_from k p xs) ≡ xs
unplaced k p [] = refl
unplaced k p (x ∷ xs) = ap (λ l. x ∷ l) (unplaced k (p + 1) xs)

-- items are determined by their rows, in whatever order the rows come
pub same_items : (j k : ℕ) (xs ys : List ProposalItem) → IsPermutation (items_from j 0 xs) (items_from k 0 ys) → ys ≡ xs
same_items j k xs ys moved =
    let same : items_from k 0 ys ≡ items_from j 0 xs =
    one_order (λ (y : ProposalItemRow). y.place) (items_from k 0 ys) (items_from j 0 xs) (places_ascend k 0 ys) (places_ascend j 0 xs)
    (λ d h. Contains-permutation (items_from k 0 ys) (items_from j 0 xs) d (IsPermutation-sym (items_from j 0 xs) (items_from k 0 ys) moved) h)
    (λ d h. Contains-permutation (items_from j 0 xs) (items_from k 0 ys) d moved h) in
    sym (unplaced k 0 ys) ∙ ap (map (λ (y : ProposalItemRow). y.item)) same ∙ unplaced j 0 xs
