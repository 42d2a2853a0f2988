-- The tests of the chain in `lack_at` that failed.
use Rattle.std.proofs.Common.{◌≡◌, ◌⊎◌, ℕ, ◌+◌, ◌%◌, ◌<◌, ◌≤◌, eqb, ltb, cond, Bool, true, false, ◌&&◌, List, length, take, Option, Some, None, refl, inl, inr, arith}
use Rattle.std.specs.Str.{bytes_eq}
use Rattle.std.proofs.lemmas.Bool.Decides.{nat_tests}
use Rattle.std.proofs.lemmas.Slice.Eq.{bytes_eq-Decides}
use Rattle.siglist.specs.Kinds.{kind_of, is_bare, suits, sha256_kind, x509_kind, x509_sha256_kind}
use Rattle.siglist.specs.declared.kind.Kind.{Kind}
use Rattle.siglist.specs.declared.kind.Kind.TheVariants as kind
use Rattle.siglist.specs.Heads.{size_at, header_size_at, entry_size_at}
use Rattle.siglist.specs.Steps.Reading.{entries_size_at, lack_at}
use Rattle.siglist.specs.ListsFaults.{LacksRoom}
use Rattle.siglist.specs.declared.fault.Lack.{Lack}
use Rattle.siglist.specs.declared.fault.Lack.TheVariants as lack

-- no test found anything wrong
pub record HasHead (b : List ℕ) : Type 0 where
  pub long : 28 ≤ length b
  pub room : 28 + header_size_at b ≤ size_at b
  pub fits : size_at b ≤ length b
  pub bare : is_bare (kind_of (take 16 b)) ≡ true → header_size_at b ≡ 0
  pub least : 16 ≤ entry_size_at b
  pub suits : suits (kind_of (take 16 b)) (entry_size_at b) ≡ true
  pub whole : entries_size_at b % entry_size_at b ≡ 0

chosen : {A : Type 0} (c : Bool) (x y z : A) → cond c x y ≡ z → ((c ≡ true) × (x ≡ z)) ⊎ ((c ≡ false) × (y ≡ z))
chosen true x y z h = inl (refl, h)
chosen false x y z h = inr (refl, h)

passed : {A : Type 0} (c : Bool) (x : A) (o : Option A) → cond c (Some x) o ≡ None → (c ≡ false) × (o ≡ None)
passed true x o h = absurd (cc)
passed false x o h = (refl, h)

held : {A : Type 0} (c : Bool) (o : Option A) (x : A) → cond c o (Some x) ≡ None → (c ≡ true) × (o ≡ None)
held true o x h = (refl, h)
held false o x h = absurd (cc)

bare_none : (n : ℕ) (c : Bool) → (ltb 0 n && c) ≡ false → c ≡ true → n ≡ 0
bare_none n c h e = let t : (ltb 0 n && true) ≡ false = rw e at h in grind (arith, nat_tests)

pub lack_at-none : (b : List ℕ) → lack_at b ≡ None → HasHead b
unfolding lack_at
lack_at-none b h =
    let one = passed (ltb (length b) 28) lack.List _ h in
    let two = passed (ltb (size_at b) (28 + header_size_at b)) lack.List _ one.1 in
    let three = passed (ltb (length b) (size_at b)) lack.List _ two.1 in
    let four = passed (ltb 0 (header_size_at b) && is_bare (kind_of (take 16 b))) lack.List _ three.1 in
    let five = passed (ltb (entry_size_at b) 16) lack.EntrySize _ four.1 in
    let six = held (suits (kind_of (take 16 b)) (entry_size_at b)) _ lack.EntrySize five.1 in
    let seven = held (eqb (entries_size_at b % entry_size_at b) 0) None lack.EntrySize six.1 in
    record {
      long = grind (arith, nat_tests, one.0);
      room = grind (arith, nat_tests, two.0);
      fits = grind (arith, nat_tests, three.0);
      bare = λ e. bare_none _ _ four.0 e;
      least = grind (arith, nat_tests, five.0);
      suits = six.0;
      whole = grind (arith, nat_tests, seven.0);
    }

and_none : (n : ℕ) (c : Bool) → (c ≡ true → n ≡ 0) → (ltb 0 n && c) ≡ false
and_none n true h = let z = h refl in grind (arith, nat_tests)
and_none n false h = elim (ltb 0 n) as (λ v. (v && false) ≡ false) [ true ↦ refl | false ↦ refl ]

pub lack_at-head : (b : List ℕ) → HasHead b → lack_at b ≡ None
unfolding lack_at
lack_at-head b h =
    let one : ltb (length b) 28 ≡ false = grind (arith, nat_tests, h.long) in
    let two : ltb (size_at b) (28 + header_size_at b) ≡ false = grind (arith, nat_tests, h.room) in
    let three : ltb (length b) (size_at b) ≡ false = grind (arith, nat_tests, h.fits) in
    let four = and_none (header_size_at b) (is_bare (kind_of (take 16 b))) h.bare in
    let five : ltb (entry_size_at b) 16 ≡ false = grind (arith, nat_tests, h.least) in
    let seven : eqb (entries_size_at b % entry_size_at b) 0 ≡ true = grind (arith, nat_tests, h.whole) in
    rw (one, two, three, four, five, h.suits, seven) refl

both_hold : (n : ℕ) (c : Bool) → (ltb 0 n && c) ≡ true → (0 < n) × (c ≡ true)
both_hold n true h = elim (ltb 0 n) as (λ v. ltb 0 n ≡ v → (v && true) ≡ true → (0 < n) × (true ≡ true)) [
  | true ↦ λ e _. (grind (arith, nat_tests, e), refl)
  | false ↦ λ _ f. absurd (cc)
] refl h
both_hold n false h = elim (ltb 0 n) as (λ v. (v && false) ≡ true → (0 < n) × (false ≡ true)) [ true ↦ λ f. absurd (cc) | false ↦ λ f. absurd (cc) ] h

-- the tests after the first four never answer List
not_list : (c d e : Bool) → cond c (Some lack.EntrySize) (cond d (cond e None (Some lack.EntrySize)) (Some lack.EntrySize)) ≡ Some lack.List → ⊥
not_list true d e h = cc
not_list false true true h = cc
not_list false true false h = cc
not_list false false e h = cc

-- the first four never answer EntrySize
later : (c : Bool) (o : Option Lack) → cond c (Some lack.List) o ≡ Some lack.EntrySize → (c ≡ false) × (o ≡ Some lack.EntrySize)
later true o h = absurd (cc)
later false o h = (refl, h)

-- the lack at the front of these bytes
abbrev pub IsLack : Lack → List ℕ → Type 0
IsLack lack.List b = LacksRoom b
IsLack lack.EntrySize b = LacksRoom b → ⊥

pub lack_at-some : (b : List ℕ) (why : Lack) → lack_at b ≡ Some why → IsLack why b
unfolding lack_at
lack_at-some b lack.List h = elim (chosen (ltb (length b) 28) _ _ _ h) [
  | inl p ↦ inl (grind (arith, nat_tests, p.0))
  | inr p ↦ elim (chosen (ltb (size_at b) (28 + header_size_at b)) _ _ _ p.1) [
    | inl q ↦ inr (inl (grind (arith, nat_tests, q.0)))
    | inr q ↦ elim (chosen (ltb (length b) (size_at b)) _ _ _ q.1) [
      | inl r ↦ inr (inr (inl (grind (arith, nat_tests, r.0))))
      | inr r ↦ elim (chosen (ltb 0 (header_size_at b) && is_bare (kind_of (take 16 b))) _ _ _ r.1) [
        | inl s ↦ inr (inr (inr (both_hold _ _ s.0)))
        | inr s ↦ absurd (not_list (ltb (entry_size_at b) 16) (suits (kind_of (take 16 b)) (entry_size_at b)) (eqb (entries_size_at b % entry_size_at b) 0) s.1)
      ]
    ]
  ]
]
lack_at-some b lack.EntrySize h =
    let one = later (ltb (length b) 28) _ h in
    let two = later (ltb (size_at b) (28 + header_size_at b)) _ one.1 in
    let three = later (ltb (length b) (size_at b)) _ two.1 in
    let four = later (ltb 0 (header_size_at b) && is_bare (kind_of (take 16 b))) _ three.1 in
    λ room. elim room [
      | inl p ↦ grind (arith, nat_tests, one.0, p)
      | inr p ↦ elim p [
        | inl q ↦ grind (arith, nat_tests, two.0, q)
        | inr q ↦ elim q [
          | inl r ↦ grind (arith, nat_tests, three.0, r)
          | inr r ↦ let z : header_size_at b ≡ 0 = bare_none _ _ four.0 r.1 in let some : 0 < header_size_at b = r.0 in omega (arith, z, some)
        ]
      ]
    ]

-- the kind that 16 bytes name
unfoldable pub WhichKind : List ℕ → Kind → Type 0
WhichKind b kind.Sha256 = b ≡ sha256_kind
WhichKind b kind.X509 = b ≡ x509_kind
WhichKind b kind.X509Sha256 = b ≡ x509_sha256_kind
WhichKind b (kind.Other guid) = Unit {0}

pub which_kind : (b : List ℕ) → WhichKind b (kind_of b)
unfolding kind_of WhichKind
which_kind b =
    let one = bytes_eq-Decides b sha256_kind in
    let two = bytes_eq-Decides b x509_kind in
    let three = bytes_eq-Decides b x509_sha256_kind in
    split (bytes_eq b sha256_kind) (bytes_eq b x509_kind) (bytes_eq b x509_sha256_kind) one.0 two.0 three.0
  where
    split : (c d e : Bool) → (c ≡ true → b ≡ sha256_kind) → (d ≡ true → b ≡ x509_kind) → (e ≡ true → b ≡ x509_sha256_kind)
        → WhichKind b (cond c kind.Sha256 (cond d kind.X509 (cond e kind.X509Sha256 (kind.Other b))))
    split true d e f g h = f refl
    split false true e f g h = g refl
    split false false true f g h = h refl
    split false false false f g h = tt
