-- Tests on lists.
use Rattle.std.proofs.Common.{◌≡◌, ℕ, ◌+◌, ◌<◌, Bool, true, false, not, ◌||◌, All, List, [], ◌∷◌, ◌++◌, length, drop, get_or, refl, sym, ◌∙◌, ap, append_assoc, inl, inr, arith, add-one, drop-cons, suc}
use Rattle.std.specs.Prelude.{◌==◌, if◌then◌else◌, bytes_eq, flat_map}
use Rattle.std.specs.List.{list_any}
use Rattle.std.proofs.lemmas.Bool.{and_parts, not-true, or_cases, or_left, or_right}
use Rattle.std.proofs.lemmas.Bool.Decides.{nat_tests}
use Rattle.std.proofs.lemmas.List.Elements.{All-head, All-tail}
use Rattle.std.proofs.lemmas.List.Folds.{list_any-append}
use Rattle.std.proofs.lemmas.Slice.Eq.{bytes_eq-Decides}
use Rattle.desk_history.specs.Calls.{are_apart, is_among, distinct}

pub same_text : (a b : List ℕ) → bytes_eq a b ≡ true → a ≡ b
same_text a b h = (bytes_eq-Decides a b).0 h

pub bytes_eq-refl : (a : List ℕ) → bytes_eq a a ≡ true
bytes_eq-refl a = (bytes_eq-Decides a a).1 refl

-- a test that some element passes is kept by more elements in front
pub any_after : {X : Type 0} (p : X → Bool) (xs ys : List X) → list_any p ys ≡ true → list_any p (xs ++ ys) ≡ true
any_after p xs ys h = list_any-append p xs ys ∙ or_right (list_any p xs) (list_any p ys) h

-- a test that implies another is kept from one to the other
pub any_of : {X : Type 0} (p q : X → Bool) → ((x : X) → p x ≡ true → q x ≡ true) → (xs : List X) → list_any p xs ≡ true → list_any q xs ≡ true
any_of p q each [] h = h
any_of p q each (x ∷ xs) h =
    elim (or_cases (p x) (list_any p xs) h) [
      | inl e ↦ or_left (q x) (list_any q xs) (each x e)
      | inr e ↦ or_right (q x) (list_any q xs) (any_of p q each xs e)
    ]

pub or_mono : (a b c d : Bool) → (a ≡ true → c ≡ true) → (b ≡ true → d ≡ true) → (a || b) ≡ true → (c || d) ≡ true
or_mono true b c d f g h = or_left c d (f refl)
or_mono false b c d f g h = or_right c d (g h)

pub flat_map-append : {X A : Type 0} (f : X → List A) (xs ys : List X) → flat_map f (xs ++ ys) ≡ flat_map f xs ++ flat_map f ys
flat_map-append f [] ys = refl
flat_map-append f (x ∷ xs) ys = ap (λ r. f x ++ r) (flat_map-append f xs ys) ∙ sym (append_assoc (f x) (flat_map f xs) (flat_map f ys))

-- two more of the test's false answers
pub or_none : (a b : Bool) → a ≡ false → b ≡ false → (a || b) ≡ false
or_none a b h k = cc

pub none_left : (a b : Bool) → (a || b) ≡ false → a ≡ false
none_left false b h = refl
none_left true b h = cc

pub none_right : (a b : Bool) → (a || b) ≡ false → b ≡ false
none_right false b h = h
none_right true b h = cc

-- one more item that is unlike the others
pub apart-more : {X : Type 0} (same : X → X → Bool) (x : X) (xs : List X) → list_any (same x) xs ≡ false → are_apart same xs ≡ true → are_apart same (x ∷ xs) ≡ true
apart-more same x xs fresh rest = rw fresh rest

-- two lists without a pair alike, and no item of one like an item of the other
pub apart_joined : {X : Type 0} (same : X → X → Bool) (xs ys : List X) → are_apart same xs ≡ true → are_apart same ys ≡ true
    → All (λ x. list_any (same x) ys ≡ false) xs → are_apart same (xs ++ ys) ≡ true
apart_joined same [] ys h k f = k
apart_joined same (x ∷ xs) ys h k f =
    let both : (not (list_any (same x) xs) ≡ true) × (are_apart same xs ≡ true) = and_parts (not (list_any (same x) xs)) (are_apart same xs) h in
    let rest = apart_joined same xs ys both.1 k (All-tail (λ z. list_any (same z) ys ≡ false) x xs f) in
    apart-more same x (xs ++ ys)
    (list_any-append (same x) xs ys ∙ or_none (list_any (same x) xs) (list_any (same x) ys) (not-true (list_any (same x) xs) both.0) (All-head (λ z. list_any (same z) ys ≡ false) x xs f))
    rest

-- each text of `once` is one of the texts
pub any_once : (t : List ℕ) (ts : List (List ℕ)) → list_any (bytes_eq t) (distinct ts) ≡ list_any (bytes_eq t) ts
any_once t [] = refl
any_once t (u ∷ us) =
    elim (is_among us u) as (λ b. is_among us u ≡ b → list_any (bytes_eq t) (if b then distinct us else u ∷ distinct us) ≡ (bytes_eq t u || list_any (bytes_eq t) us)) [
      | true ↦ λ e. any_once t us ∙ sym (known t u us e)
      | false ↦ λ e. ap (λ b. bytes_eq t u || b) (any_once t us)
    ] refl
  where
    known : (t u : List ℕ) (us : List (List ℕ)) → is_among us u ≡ true → (bytes_eq t u || list_any (bytes_eq t) us) ≡ list_any (bytes_eq t) us
    known t u us e =
        elim (bytes_eq t u) as (λ b. bytes_eq t u ≡ b → (b || list_any (bytes_eq t) us) ≡ list_any (bytes_eq t) us) [
          | true ↦ λ h. sym (ap (λ v. list_any (bytes_eq v) us) (same_text t u h) ∙ e)
          | false ↦ λ h. refl
        ] refl

-- `once` holds no text twice
pub once_apart : (ts : List (List ℕ)) → are_apart bytes_eq (distinct ts) ≡ true
once_apart [] = refl
once_apart (t ∷ ts) =
    elim (is_among ts t) as (λ b. is_among ts t ≡ b → are_apart bytes_eq (if b then distinct ts else t ∷ distinct ts) ≡ true) [
      | true ↦ λ e. once_apart ts
      | false ↦ λ e. apart-more bytes_eq t (distinct ts) (any_once t ts ∙ e) (once_apart ts)
    ] refl

-- the rest of a list from a place on begins with the item there
pub split_at : {X : Type 0} (xs : List X) (i : ℕ) (x : X) → i < length xs → x ≡ get_or xs i x → drop i xs ≡ x ∷ drop (i + 1) xs
split_at xs i x h is = rw (add-one, drop-cons xs i x) (ap (λ d. d ∷ drop (suc i) xs) (sym is))

pub number_is : (k n : ℕ) → (k == n) ≡ true → k ≡ n
number_is k n h = grind (arith, nat_tests)

-- a number isn't a smaller one
pub number_above : (n m : ℕ) → m < n → (n == m) ≡ false
number_above n m h = grind (arith, nat_tests)

pub number_itself : (k : ℕ) → (k == k) ≡ true
number_itself k = grind (arith, nat_tests)
