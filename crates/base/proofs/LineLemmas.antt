-- The first line of a text, and the lines after it.
use Rattle.std.proofs.Common.{◌≡◌, ℕ, suc, cond, ltb, ◌+◌, ◌-◌, ◌<◌, ◌≤◌, eqb, Bool, true, false, List, [], ◌∷◌, ◌++◌, length, get_or, take, drop, refl, sym, ap, ◌∙◌, arith, add-one, drop-cons, take-append-drop}
use Rattle.std.specs.Prelude.{position, None, Some}
use Rattle.std.specs.List.{position_or_len}
use Rattle.std.proofs.lemmas.List.{get_or-take, length-take-le}
use Rattle.std.proofs.lemmas.List.Sums.{fails_before_first}
use Rattle.std.proofs.lemmas.List.Quantifiers.{position-Some}
use Rattle.std.proofs.lemmas.Bool.Decides.{nat_tests}
use Rattle.std.proofs.lemmas.Grind.{common_steps}
use Rattle.base.specs.Lines.{lines_of, begins_with, numbered_from}

-- no byte of the list is an LF
pub record HasNoLf (t : List ℕ) : Type 0 where
  pub at : (k : ℕ) → k < length t → eqb (get_or t k 0) 10 ≡ false

HasNoLf-tail : (b : ℕ) (bs : List ℕ) → HasNoLf (b ∷ bs) → HasNoLf bs
HasNoLf-tail b bs h = record { at = λ k l. h.at (suc k) (omega arith) }

begins_with-none : (bs : List ℕ) → HasNoLf bs → begins_with 10 bs ≡ false
begins_with-none [] h = refl
begins_with-none (b ∷ bs) h = h.at 0 (omega arith)

-- a text with no LF is its last line
pub lines_of-last : (t : List ℕ) → HasNoLf t → lines_of t ≡ t ∷ []
lines_of-last [] h = refl
lines_of-last (b ∷ bs) h =
    let first : eqb b 10 ≡ false = h.at 0 (omega arith) in
    let next = begins_with-none bs (HasNoLf-tail b bs h) in
    let rest = lines_of-last bs (HasNoLf-tail b bs h) in
    grind (arith, common_steps, first, next, rest)

-- a list with no LF before a byte that is none
begins_with-front : (front : List ℕ) (x : ℕ) (rest : List ℕ) → HasNoLf front → eqb x 10 ≡ false → begins_with 10 (front ++ x ∷ rest) ≡ false
begins_with-front [] x rest h e = e
begins_with-front (b ∷ bs) x rest h e = h.at 0 (omega arith)

-- a line that CR and LF end
pub lines_of-crlf : (front rest : List ℕ) → HasNoLf front → lines_of (front ++ 13 ∷ 10 ∷ rest) ≡ front ∷ lines_of rest
lines_of-crlf [] rest h = refl
lines_of-crlf (b ∷ bs) rest h =
    let first : eqb b 10 ≡ false = h.at 0 (omega arith) in
    let tail = HasNoLf-tail b bs h in
    let next : begins_with 10 (bs ++ 13 ∷ 10 ∷ rest) ≡ false = begins_with-front bs 13 (10 ∷ rest) tail refl in
    let after : lines_of (bs ++ 13 ∷ 10 ∷ rest) ≡ bs ∷ lines_of rest = lines_of-crlf bs rest tail in
    grind (arith, common_steps, first, next, after)

-- a line that an LF ends, with no CR before it
pub lines_of-lf : (front rest : List ℕ) → HasNoLf front → ((k : ℕ) → k + 1 ≡ length front → eqb (get_or front k 0) 13 ≡ false) → lines_of (front ++ 10 ∷ rest) ≡ front ∷ lines_of rest
lines_of-lf [] rest h last = refl
lines_of-lf (b ∷ []) rest h last =
    let first : eqb b 10 ≡ false = h.at 0 (omega arith) in
    let other : eqb b 13 ≡ false = last 0 (omega arith) in
    grind (arith, common_steps, first, other)
lines_of-lf (b ∷ c ∷ bs) rest h last =
    let first : eqb b 10 ≡ false = h.at 0 (omega arith) in
    let next : eqb c 10 ≡ false = h.at 1 (omega arith) in
    let after : lines_of ((c ∷ bs) ++ 10 ∷ rest) ≡ (c ∷ bs) ∷ lines_of rest = lines_of-lf (c ∷ bs) rest (HasNoLf-tail b (c ∷ bs) h) (λ k e. last (suc k) (omega (arith, e))) in
    grind (arith, common_steps, first, next, after)

-- the last line may be followed by an empty one, which is passed over
pub numbered_from-last : (n : ℕ) (t : List ℕ) → numbered_from n (t ∷ []) ≡ numbered_from n (t ∷ [] ∷ [])
numbered_from-last n [] = refl
numbered_from-last n (b ∷ bs) = refl

-- the test for an LF
abbrev pub is_lf : ℕ → Bool
is_lf b = eqb b 10

found_none : (b : Bool) (i : ℕ) → None ≡ cond b (Some i) None → b ≡ false
found_none true i h = cc
found_none false i h = refl

pub HasNoLf-none : (t : List ℕ) → None ≡ position is_lf t → HasNoLf t
HasNoLf-none t h =
    let i = position_or_len is_lf t in
    let past : ltb i (length t) ≡ false = found_none (ltb i (length t)) i h in
    record { at = λ k l. fails_before_first is_lf t k 0 (grind (arith, nat_tests)) }

pub HasNoLf-take : (t : List ℕ) (i j : ℕ) → j ≤ i → i ≤ length t → ((k : ℕ) → k < i → eqb (get_or t k 0) 10 ≡ false) → HasNoLf (take j t)
HasNoLf-take t i j le fits h = record {
  at = λ k l.
      let size = length-take-le j t (omega arith) in
      let short : k < j = omega arith in
      rw (get_or-take j t k 0 short) (h k (omega arith));
}

-- the text from an LF on
from_lf : (t : List ℕ) (i : ℕ) → i < length t → eqb (get_or t i 0) 10 ≡ true → drop i t ≡ 10 ∷ drop (i + 1) t
from_lf t i l is =
    let lf : get_or t i 0 ≡ 10 = grind (arith, nat_tests) in
    rw (add-one, drop-cons t i 0, lf) refl

-- the first line of a text, where its LF has no CR before it
pub lines_of-at_lf : (t : List ℕ) (i : ℕ) → Some i ≡ position is_lf t → ((k : ℕ) → k + 1 ≡ i → eqb (get_or t k 0) 13 ≡ false)
    → lines_of t ≡ take i t ∷ lines_of (drop (i + 1) t)
lines_of-at_lf t i h last =
    let found = position-Some is_lf t i 0 (sym h) in
    let size = length-take-le i t (omega arith) in
    let whole : t ≡ take i t ++ 10 ∷ drop (i + 1) t = sym (take-append-drop i t) ∙ ap (λ r. take i t ++ r) (from_lf t i found.0 found.1) in
    ap lines_of whole ∙ lines_of-lf (take i t) (drop (i + 1) t) (HasNoLf-take t i i (omega arith) (omega arith) found.2)
    (λ k e. let short : k < i = omega arith in rw (get_or-take i t k 0 short) (last k (omega arith)))

-- the first line of a text, where its LF has a CR before it
pub lines_of-at_crlf : (t : List ℕ) (i : ℕ) → Some i ≡ position is_lf t → 0 < i → eqb (get_or t (i - 1) 0) 13 ≡ true
    → lines_of t ≡ take (i - 1) t ∷ lines_of (drop (i + 1) t)
lines_of-at_crlf t i h some cr =
    let found = position-Some is_lf t i 0 (sym h) in
    let is_cr : get_or t (i - 1) 0 ≡ 13 = grind (arith, nat_tests) in
    let next : suc (i - 1) ≡ i = omega arith in
    let from_cr : drop (i - 1) t ≡ 13 ∷ 10 ∷ drop (i + 1) t = drop-cons t (i - 1) 0 (omega arith) ∙ rw (is_cr, next, from_lf t i found.0 found.1) refl in
    let whole : t ≡ take (i - 1) t ++ 13 ∷ 10 ∷ drop (i + 1) t = sym (take-append-drop (i - 1) t) ∙ ap (λ r. take (i - 1) t ++ r) from_cr in
    ap lines_of whole ∙ lines_of-crlf (take (i - 1) t) (drop (i + 1) t) (HasNoLf-take t i (i - 1) (omega arith) (omega arith) found.2)
