-- One item of a list that is changed at its place, among items that ascend by their digests.
use Rattle.std.proofs.Common.{◌≡◌, ◌≢◌, ℕ, zero, suc, ◌+◌, ◌<◌, ◌≤◌, Bool, true, false, List, [], ◌∷◌, length, map, get_or, set, Result, Ok, Err, refl, sym, ap, ap₂, subst, ◌∙◌, arith, inl, inr}
use Rattle.std.specs.Prelude.{OnOk, if◌then◌else◌, bytes_eq}
use Rattle.std.specs.List.Sorted.{IsBinarySearchResult, IsSortedBy, IsStrictlySortedBy}
use Rattle.std.specs.Cmp.Lexicographic.{nat_list_cmp_total, slice_cmp}
use Rattle.std.specs.Ordering.{is_eq, is_lt, nat_cmp, ordering_reverse}
use Rattle.std.specs.declared.cmp.Ordering.{Ordering}
use Rattle.std.specs.declared.cmp.Ordering.TheVariants.{Less, Equal, Greater}
use Rattle.std.proofs.lemmas.Bool.{cases_lt}
use Rattle.std.proofs.lemmas.List.{length-map}
use Rattle.std.proofs.lemmas.List.Sorted.{searchable_from_sorted}
use Rattle.std.proofs.lemmas.Map.Keys.{Less-from_sorted}
use Rattle.std.proofs.lemmas.Map.Text.{is_eq-slice_cmp}
use Rattle.desk_types.specs.Certificates.{WholeCertificate}
use Rattle.desk_history.proofs.ListLemmas.{same_text}
use Rattle.store_exports.specs.Gathering.{Bodies, with_body, with_certificate}

abbrev cmp : List ℕ → List ℕ → Ordering
cmp = slice_cmp nat_cmp

abbrev tbs_of : Bodies → List ℕ
tbs_of b = b.tbs

-- texts that compare so are equal, or they aren't
is_equal : (a b : List ℕ) (r : Ordering) → cmp a b ≡ r → bytes_eq a b ≡ is_eq r
is_equal a b r h = sym (is_eq-slice_cmp a b) ∙ ap is_eq h

reversed : (a b : List ℕ) (r : Ordering) → cmp a b ≡ r → cmp b a ≡ ordering_reverse r
reversed a b r h = nat_list_cmp_total.antisymm b a ∙ ap ordering_reverse h

-- ---- one place

module _ (c : WholeCertificate) where
  abbrev is_it : Bodies → Bool
  is_it b = bytes_eq b.tbs c.tbs

  -- another certificate stays
  other : (b : Bodies) → is_it b ≡ false → with_certificate c b ≡ b
  other b h = ap (λ t. if t then with_body c.body b else b) h

  own : (b : Bodies) → is_it b ≡ true → with_certificate c b ≡ with_body c.body b
  own b h = ap (λ t. if t then with_body c.body b else b) h

  -- where none is the certificate, all stay
  none : (d : Bodies) (bs : List Bodies) → ((k : ℕ) → k < length bs → is_it (get_or bs k d) ≡ false) → map (with_certificate c) bs ≡ bs
  none d [] h = refl
  none d (b ∷ bs) h = ap₂ (λ x l. x ∷ l) (other b (h 0 (omega arith))) (none d bs (λ k l. h (suc k) (omega arith)))

  -- where one is, it alone changes
  one : (d : Bodies) (bs : List Bodies) (p : ℕ) → p < length bs → is_it (get_or bs p d) ≡ true → ((k : ℕ) → k < length bs → k ≢ p → is_it (get_or bs k d) ≡ false)
      → map (with_certificate c) bs ≡ set bs p (with_body c.body (get_or bs p d))
  one d [] p l is others = absurd (omega (arith, l))
  one d (b ∷ bs) zero l is others = ap₂ (λ x l. x ∷ l) (own b is) (none d bs (λ k less. others (suc k) (omega arith) (λ same. omega (arith, same))))
  one d (b ∷ bs) (suc p) l is others =
      ap₂ (λ x l. x ∷ l) (other b (others 0 (omega arith) (λ same. omega (arith, same))))
      (one d bs p (omega arith) is (λ k less differs. others (suc k) (omega arith) (λ same. differs (omega (arith, same)))))

-- ---- among items that ascend

get_or_map : (bs : List Bodies) (k : ℕ) (d : Bodies) → get_or (map tbs_of bs) k d.tbs ≡ (get_or bs k d).tbs
get_or_map [] k d = refl
get_or_map (b ∷ bs) zero d = refl
get_or_map (b ∷ bs) (suc k) d = get_or_map bs k d

module _ (bs : List Bodies) (up : IsStrictlySortedBy cmp (map tbs_of bs)) where
  rises : (i j : ℕ) (d : Bodies) → i < j → j < length bs → cmp (get_or bs i d).tbs (get_or bs j d).tbs ≡ Less
  rises i j d less l =
      let count = length-map bs tbs_of in
      ap₂ cmp (sym (get_or_map bs i d)) (sym (get_or_map bs j d)) ∙ Less-from_sorted cmp (map tbs_of bs) i j d.tbs up less (omega (arith, count, l))

  in_order : IsSortedBy (λ a b. is_lt (cmp (tbs_of a) (tbs_of b))) bs
  in_order k d low l = ap is_lt (reversed (get_or bs k d).tbs (get_or bs (k + 1) d).tbs Less (rises k (k + 1) d (omega arith) l))

  -- what a search for the certificate finds is the one that changes
  module _ (c : WholeCertificate) where
    pub at_place : (p : ℕ) (x : Bodies) → p < length bs → cmp (get_or bs p x).tbs c.tbs ≡ Equal → map (with_certificate c) bs ≡ set bs p (with_body c.body (get_or bs p x))
    at_place p x l same =
        let it : (get_or bs p x).tbs ≡ c.tbs = same_text (get_or bs p x).tbs c.tbs (is_equal (get_or bs p x).tbs c.tbs Equal same) in
        one c x bs p l (is_equal (get_or bs p x).tbs c.tbs Equal same) (λ k less differs. elim (cases_lt k p) [
          | inl before ↦ is_equal (get_or bs k x).tbs c.tbs Less (ap (cmp (get_or bs k x).tbs) (sym it) ∙ rises k p x before l)
          | inr after ↦ is_equal (get_or bs k x).tbs c.tbs Greater
              (ap (cmp (get_or bs k x).tbs) (sym it) ∙ reversed (get_or bs p x).tbs (get_or bs k x).tbs Less (rises p k x (let apart = differs in omega (arith, after, apart)) less))
        ])

    pub nowhere : (d : Bodies) (p : ℕ) → IsBinarySearchResult (λ b. cmp b.tbs c.tbs) bs (Err p) → map (with_certificate c) bs ≡ bs
    nowhere d p found =
        let it = found (searchable_from_sorted nat_list_cmp_total tbs_of bs c.tbs in_order) in
        none c d bs (λ k l. elim (cases_lt k p) [
          | inl before ↦ is_equal (get_or bs k d).tbs c.tbs Less (it.0 k d (omega arith) before)
          | inr after ↦ is_equal (get_or bs k d).tbs c.tbs Greater (it.1 k d after l)
        ])

-- the call that changes one changes it alone
pub changed : {E : Type 0} (r : Result (Unit {0}) E) (c : WholeCertificate) (bs : List Bodies) (p : ℕ) (x new : Bodies) → map (with_certificate c) bs ≡ set bs p (with_body c.body x)
    → OnOk r (new ≡ with_body c.body x) → OnOk r (set bs p new ≡ map (with_certificate c) bs)
changed (Ok v) c bs p x new all one = ap (set bs p) one ∙ sym all
changed (Err e) c bs p x new all one = tt
