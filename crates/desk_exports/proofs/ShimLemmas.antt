-- What shim's form of dbx revokes.
use Rattle.std.proofs.Common.{◌≡◌, ℕ, Bool, true, false, not, ◌&&◌, ◌||◌, ◌==◌, List, [], ◌∷◌, filter, flat_map, length, map, reverse, refl, sym, ap, ap₂, ◌∙◌, arith}
use Rattle.std.specs.Prelude.{if◌then◌else◌, bytes_eq}
use Rattle.std.specs.List.{list_any}
use Rattle.std.proofs.lemmas.List.{length-reverse}
use Rattle.std.proofs.lemmas.List.Folds.{list_any-append}
use Rattle.std.proofs.lemmas.List.Sorted.{IsPermutation-reverse, list_any-IsPermutation}
use Rattle.std.proofs.lemmas.Slice.Eq.{bytes_eq-Decides}
use Rattle.desk_types.specs.Certificates.{WholeCertificate}
use Rattle.desk_types.specs.declared.kind.ListedKind.TheVariants as kinds
use Rattle.desk_history.specs.Calls.{distinct, is_among}
use Rattle.desk_history.specs.Revocations.{is_revoked}
use Rattle.desk_history.proofs.ListLemmas.{any_once, number_above, same_text}
use Rattle.desk_exports.specs.Bodies.{certificates_given, is_bodiless}
use Rattle.desk_exports.specs.Exports.{revoked}
use Rattle.desk_exports.specs.Laws.{ShimHasBodies, ShimHasOne, ShimHasOthers}
use Rattle.desk_exports.proofs.OrderLemmas.{all_revoked}

-- ---- tests on lists

any_same : {X : Type 0} (p q : X → Bool) → ((x : X) → p x ≡ q x) → (xs : List X) → list_any p xs ≡ list_any q xs
any_same p q same [] = refl
any_same p q same (x ∷ xs) = ap₂ (λ a b. a || b) (same x) (any_same p q same xs)

any_flat : {X Y : Type 0} (p : Y → Bool) (f : X → List Y) (xs : List X) → list_any p (flat_map f xs) ≡ list_any (λ x. list_any p (f x)) xs
any_flat p f [] = refl
any_flat p f (x ∷ xs) = list_any-append p (f x) (flat_map f xs) ∙ ap (λ b. list_any p (f x) || b) (any_flat p f xs)

pub any_map : {X Y : Type 0} (p : Y → Bool) (f : X → Y) (xs : List X) → list_any p (map f xs) ≡ list_any (λ x. p (f x)) xs
any_map p f [] = refl
any_map p f (x ∷ xs) = ap (λ b. p (f x) || b) (any_map p f xs)

any_filter : {X : Type 0} (p q : X → Bool) (xs : List X) → list_any p (filter q xs) ≡ list_any (λ x. q x && p x) xs
any_filter p q [] = refl
any_filter p q (x ∷ xs) =
    elim (q x) as (λ b. list_any p (if b then x ∷ filter q xs else filter q xs) ≡ ((b && p x) || list_any (λ y. q y && p y) xs)) [
      | true ↦ ap (λ b. p x || b) (any_filter p q xs)
      | false ↦ any_filter p q xs
    ]

any_never : {X : Type 0} (xs : List X) → list_any (λ (x : X). false) xs ≡ false
any_never [] = refl
any_never (x ∷ xs) = any_never xs

or_swapped : (a b c d : Bool) → ((a || b) || (c || d)) ≡ ((a || c) || (b || d))
or_swapped true b c d = refl
or_swapped false true true d = refl
or_swapped false true false d = refl
or_swapped false false c d = refl

any_or : {X : Type 0} (p q : X → Bool) (xs : List X) → list_any (λ x. p x || q x) xs ≡ (list_any p xs || list_any q xs)
any_or p q [] = refl
any_or p q (x ∷ xs) =
    ap (λ b. (p x || q x) || b) (any_or p q xs) ∙ or_swapped (p x) (q x) (list_any p xs) (list_any q xs)

-- some item of one list goes with some item of the other
any_swapped : {X Y : Type 0} (r : X → Y → Bool) (xs : List X) (ys : List Y) → list_any (λ x. list_any (r x) ys) xs ≡ list_any (λ y. list_any (λ x. r x y) xs) ys
any_swapped r [] ys = sym (any_never ys)
any_swapped r (x ∷ xs) ys =
    ap (λ b. list_any (r x) ys || b) (any_swapped r xs ys) ∙ sym (any_or (r x) (λ y. list_any (λ x. r x y) xs) ys)

and_apart : (a b c : Bool) → ((a && c) || (b && c)) ≡ ((a || b) && c)
and_apart true b true = refl
and_apart true true false = refl
and_apart true false false = refl
and_apart false b c = refl

and_never : (b : Bool) → (b && false) ≡ false
and_never true = refl
and_never false = refl

and_true : (b : Bool) → (b && true) ≡ b
and_true true = refl
and_true false = refl

any_and : {X : Type 0} (p : X → Bool) (b : Bool) (xs : List X) → list_any (λ x. p x && b) xs ≡ (list_any p xs && b)
any_and p b [] = refl
any_and p b (x ∷ xs) = ap (λ c. (p x && b) || c) (any_and p b xs) ∙ and_apart (p x) (list_any p xs) b

both_ways : (a b : Bool) → (a ≡ true → b ≡ true) → (b ≡ true → a ≡ true) → a ≡ b
both_ways true b f g = sym (f refl)
both_ways false true f g = g refl
both_ways false false f g = refl

turned : (a b : List ℕ) → bytes_eq a b ≡ bytes_eq b a
turned a b = both_ways (bytes_eq a b) (bytes_eq b a) (λ h. (bytes_eq-Decides b a).1 (sym (same_text a b h))) (λ h. (bytes_eq-Decides a b).1 (sym (same_text b a h)))

-- ---- the bodies of a certificate

module _ (given : List WholeCertificate) where
  abbrev is_of : List ℕ → WholeCertificate → Bool
  is_of tbs c = bytes_eq tbs c.tbs

  abbrev of_one : List ℕ → List (List ℕ)
  of_one tbs = map (λ (c : WholeCertificate). c.body) (filter (is_of tbs) given)

  among_bodies : (tbs body : List ℕ) → is_among (reverse (distinct (of_one tbs))) body ≡ list_any (λ (c : WholeCertificate). is_of tbs c && bytes_eq body c.body) given
  among_bodies tbs body =
      sym (list_any-IsPermutation (bytes_eq body) (distinct (of_one tbs)) (reverse (distinct (of_one tbs))) (IsPermutation-reverse (distinct (of_one tbs))))
      ∙ any_once body (of_one tbs) ∙ any_map (bytes_eq body) (λ (c : WholeCertificate). c.body) (filter (is_of tbs) given)
      ∙ any_filter (λ (c : WholeCertificate). bytes_eq body c.body) (is_of tbs) given

  -- the bodies of some certificates
  among_all : (revoked_ones : List (List ℕ)) (body : List ℕ) → is_among (flat_map (λ tbs. reverse (distinct (of_one tbs))) revoked_ones) body
      ≡ list_any (λ (c : WholeCertificate). is_among revoked_ones c.tbs && bytes_eq body c.body) given
  among_all ones body =
      any_flat (bytes_eq body) (λ tbs. reverse (distinct (of_one tbs))) ones
      ∙ any_same (λ tbs. is_among (reverse (distinct (of_one tbs))) body) (λ tbs. list_any (λ (c : WholeCertificate). is_of tbs c && bytes_eq body c.body) given) (λ tbs. among_bodies tbs body) ones
      ∙ any_swapped (λ tbs (c : WholeCertificate). is_of tbs c && bytes_eq body c.body) ones given
      ∙ any_same (λ (c : WholeCertificate). list_any (λ tbs. is_of tbs c && bytes_eq body c.body) ones) (λ (c : WholeCertificate). is_among ones c.tbs && bytes_eq body c.body)
      (λ c. any_and (λ tbs. bytes_eq tbs c.tbs) (bytes_eq body c.body) ones ∙ ap (λ b. b && bytes_eq body c.body) (any_same (λ tbs. bytes_eq tbs c.tbs) (bytes_eq c.tbs) (λ tbs. turned tbs c.tbs) ones)) given

pub has_bodies : ShimHasBodies
has_bodies cs body =
    among_all (certificates_given cs) (revoked kinds.Certificate cs) body
    ∙ any_same (λ (c : WholeCertificate). is_among (revoked kinds.Certificate cs) c.tbs && bytes_eq body c.body) (λ (c : WholeCertificate). is_revoked kinds.Certificate cs c.tbs && bytes_eq body c.body)
    (λ c. ap (λ b. b && bytes_eq body c.body) (all_revoked kinds.Certificate cs c.tbs)) (certificates_given cs)

-- ---- those without

-- the texts that pass a test, one of which is this one
among_passed : (q : List ℕ → Bool) (texts : List (List ℕ)) (text : List ℕ) → is_among (filter q texts) text ≡ (is_among texts text && q text)
among_passed q texts text =
    any_filter (bytes_eq text) q texts ∙ any_same (λ t. q t && bytes_eq text t) (λ t. bytes_eq text t && q text) one texts ∙ any_and (bytes_eq text) (q text) texts
  where
    one : (t : List ℕ) → (q t && bytes_eq text t) ≡ (bytes_eq text t && q text)
    one t = elim (bytes_eq text t) as (λ b. bytes_eq text t ≡ b → (q t && b) ≡ (b && q text)) [
      | true ↦ λ e. and_true (q t) ∙ ap q (sym (same_text text t e))
      | false ↦ λ e. and_never (q t)
    ] refl

pub has_others : ShimHasOthers
has_others cs tbs =
    among_passed (is_bodiless cs) (revoked kinds.Certificate cs) tbs ∙ ap (λ b. b && is_bodiless cs tbs) (all_revoked kinds.Certificate cs tbs)

distinct_some : (t : List ℕ) (ts : List (List ℕ)) → (length (distinct (t ∷ ts)) == 0) ≡ false
distinct_some t [] = refl
distinct_some t (u ∷ us) =
    elim (is_among (u ∷ us) t) as (λ b. (length (if b then distinct (u ∷ us) else t ∷ distinct (u ∷ us)) == 0) ≡ false) [
      | true ↦ distinct_some u us
      | false ↦ number_above (length (t ∷ distinct (u ∷ us))) 0 (omega arith)
    ]

none_distinct : {X : Type 0} (f : X → List ℕ) (p : X → Bool) (xs : List X) → not (list_any p xs) ≡ (length (distinct (map f (filter p xs))) == 0)
none_distinct f p [] = refl
none_distinct f p (x ∷ xs) =
    elim (p x) as (λ b. not (b || list_any p xs) ≡ (length (distinct (map f (if b then x ∷ filter p xs else filter p xs))) == 0)) [
      | true ↦ sym (distinct_some (f x) (map f (filter p xs)))
      | false ↦ none_distinct f p xs
    ]

pub has_one : ShimHasOne
has_one cs tbs =
    let bodies = map (λ (c : WholeCertificate). c.body) (filter (λ c. bytes_eq tbs c.tbs) (certificates_given cs)) in
    none_distinct (λ (c : WholeCertificate). c.body) (λ c. bytes_eq tbs c.tbs) (certificates_given cs) ∙ ap (λ n. n == 0) (sym (length-reverse (distinct bodies)))
