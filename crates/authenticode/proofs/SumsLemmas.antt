-- The bytes that a pass over a file meets of spans in order.
use Rattle.std.proofs.Common.{◌≡◌, ◌+◌, ◌-◌, ◌<◌, ◌≤◌, ◌++◌, ℕ, List, [], ◌∷◌, length, take, drop, max, min, slice_range, refl, sym, ap, ◌∙◌, append_assoc, append-nil, subst, inl, inr, arith}
use Rattle.std.proofs.lemmas.Bool.{cases_lt}
use Rattle.std.proofs.lemmas.List.{drop-drop, drop-take, take-take}
use Rattle.std.proofs.lemmas.List.Elements.{All-tail}
use Rattle.sha2.specs.Hashers.{Holds256}
use Rattle.sha2.specs.declared.Sha256.{Sha256}
use Rattle.pe_image.specs.Spans.{EndWithin, bytes_at}
use Rattle.pe_image.specs.declared.span.Span.{Span}
use Rattle.pe_image.proofs.SpanLemmas.{IsChain, slice_range-join}
use Rattle.authenticode.specs.Hashing.{bytes_between}

-- a slice that ends where it begins, or before
empty-slice : (f : List ℕ) (i j : ℕ) → j ≤ i → slice_range f i j ≡ []
empty-slice f i j h = let none : j - i ≡ 0 = omega arith in ap (λ n. take n (drop i f)) none

-- a chain has no bytes before its beginning
pub between-before : (f : List ℕ) (z from to : ℕ) (ss : List Span) → IsChain z ss → to ≤ z → bytes_between f from to ss ≡ []
between-before f z from to [] chain low = refl
between-before f z from to (s ∷ ss) chain low =
    let begin : z ≤ s.from = chain.0 in
    let wide : s.from < s.to = chain.1 in
    let here = empty-slice f (max s.from from) (min s.to to) (omega arith) in
    ap (λ l. l ++ bytes_between f from to ss) here ∙ between-before f s.to from to ss chain.2 (omega arith)

-- and nothing is cut off where a chain begins
between-from : (f : List ℕ) (z from to : ℕ) (ss : List Span) → IsChain z ss → from ≤ z → bytes_between f from to ss ≡ bytes_between f 0 to ss
between-from f z from to [] chain low = refl
between-from f z from to (s ∷ ss) chain low =
    let begin : z ≤ s.from = chain.0 in
    let wide : s.from < s.to = chain.1 in
    let same : max s.from from ≡ max s.from 0 = omega arith in
    ap (λ i. slice_range f i (min s.to to) ++ bytes_between f from to ss) same
    ∙ ap (λ l. slice_range f (max s.from 0) (min s.to to) ++ l) (between-from f s.to from to ss chain.2 (omega arith))

-- all bytes of a span that ends before a place are before that place
span-before : (f : List ℕ) (s : Span) (at to : ℕ) → s.to ≤ at → at ≤ to
    → slice_range f (max s.from 0) (min s.to to) ≡ slice_range f (max s.from 0) (min s.to at) ++ slice_range f (max s.from at) (min s.to to)
span-before f s at to low le =
    let same : min s.to to ≡ min s.to at = omega arith in
    let none = empty-slice f (max s.from at) (min s.to to) (omega arith) in
    ap (slice_range f (max s.from 0)) same ∙ sym (append-nil _) ∙ ap (λ l. slice_range f (max s.from 0) (min s.to at) ++ l) (sym none)

-- a span is its bytes before a place, and then those after it
span-cut : (f : List ℕ) (s : Span) (at to : ℕ) → s.from < s.to → at < s.to → at ≤ to → to ≤ length f
    → slice_range f (max s.from 0) (min s.to to) ≡ slice_range f (max s.from 0) (min s.to at) ++ slice_range f (max s.from at) (min s.to to)
span-cut f s at to wide high le fits = elim (cases_lt s.from at) [
  | inl below ↦
      let here : max s.from 0 ≡ s.from = omega arith in
      let left : min s.to at ≡ at = omega arith in
      let right : max s.from at ≡ at = omega arith in
      let joined = slice_range-join f s.from at (min s.to to) (omega arith) (omega arith) (omega arith) in
      ap (λ i. slice_range f i (min s.to to)) here ∙ sym joined ∙ ap (λ i. slice_range f i at ++ slice_range f at (min s.to to)) (sym here)
      ∙ ap (λ j. slice_range f (max s.from 0) j ++ slice_range f at (min s.to to)) (sym left)
      ∙ ap (λ i. slice_range f (max s.from 0) (min s.to at) ++ slice_range f i (min s.to to)) (sym right)
  | inr behind ↦
      let none = empty-slice f (max s.from 0) (min s.to at) (omega arith) in
      let right : max s.from at ≡ max s.from 0 = omega arith in
      ap (λ i. slice_range f i (min s.to to)) (sym right) ∙ ap (λ l. l ++ slice_range f (max s.from at) (min s.to to)) (sym none)
]

-- the bytes that one more piece has of a chain come after those that were met before
pub between-next : (f : List ℕ) (z at to : ℕ) (ss : List Span) → IsChain z ss → at ≤ to → to ≤ length f
    → bytes_between f 0 to ss ≡ bytes_between f 0 at ss ++ bytes_between f at to ss
between-next f z at to [] chain le fits = refl
between-next f z at to (s ∷ ss) chain le fits =
    let wide : s.from < s.to = chain.1 in
    let head = slice_range f (max s.from 0) (min s.to at) in
    let more = slice_range f (max s.from at) (min s.to to) in
    let rest = bytes_between f at to ss in
    elim (cases_lt at s.to) [
      | inl high ↦
          let here = span-cut f s at to wide high le fits in
          let none = between-before f s.to 0 at ss chain.2 (omega arith) in
          let same = between-from f s.to at to ss chain.2 (omega arith) in
          ap (λ l. l ++ bytes_between f 0 to ss) here ∙ append_assoc head more (bytes_between f 0 to ss) ∙ ap (λ l. head ++ (more ++ l)) (sym same)
          ∙ ap (λ l. l ++ (more ++ rest)) (sym (append-nil head)) ∙ ap (λ l. (head ++ l) ++ (more ++ rest)) (sym none)
      | inr low ↦
          let none = empty-slice f (max s.from at) (min s.to to) (omega arith) in
          let here = span-before f s at to low le in
          let next = between-next f s.to at to ss chain.2 le fits in
          ap (λ l. l ++ bytes_between f 0 to ss) (here ∙ ap (λ l. head ++ l) none ∙ append-nil head) ∙ ap (λ l. head ++ l) next
          ∙ sym (append_assoc head (bytes_between f 0 at ss) rest) ∙ ap (λ l. (head ++ bytes_between f 0 at ss) ++ (l ++ rest)) (sym none)
    ]

-- a whole file has all of the spans within it
pub between-all : (f : List ℕ) (n : ℕ) (ss : List Span) → EndWithin n ss → bytes_between f 0 n ss ≡ bytes_at f ss
between-all f n [] within = refl
between-all f n (s ∷ ss) within =
    let end : s.to ≤ n = within 0 s (omega arith) in
    let begin : max s.from 0 ≡ s.from = omega arith in
    let stop : min s.to n ≡ s.to = omega arith in
    ap (λ i. slice_range f i (min s.to n) ++ bytes_between f 0 n ss) begin ∙ ap (λ j. slice_range f s.from j ++ bytes_between f 0 n ss) stop
    ∙ ap (λ l. slice_range f s.from s.to ++ l) (between-all f n ss (All-tail (λ s. s.to ≤ n) s ss within))

-- a part of a piece is one of the file
pub slice-in : (f piece : List ℕ) (at end i j : ℕ) → piece ≡ slice_range f at end → at ≤ i → i ≤ j → j ≤ end
    → take ((j - at) - (i - at)) (drop (i - at) piece) ≡ slice_range f i j
slice-in f piece at end i j is low le high =
    let skip = i - at in
    let upto : end - at ≡ skip + (end - i) = omega arith in
    let place : at + skip ≡ i = omega arith in
    let size : (j - at) - skip ≡ j - i = omega arith in
    let rest : drop skip piece ≡ take (end - i) (drop i f) =
    ap (drop skip) is ∙ ap (λ n. drop skip (take n (drop at f))) upto ∙ drop-take skip (end - i) (drop at f)
    ∙ ap (take (end - i)) (drop-drop skip at f ∙ ap (λ n. drop n f) place) in
    ap (λ n. take n (drop skip piece)) size ∙ ap (take (j - i)) rest ∙ take-take (j - i) (end - i) (drop i f) (omega arith)

-- the hasher holds what a piece has before the ranges that are left, of a message that ends with
-- what it has of these
pub record Meets (hasher : Sha256) (f : List ℕ) (from to : ℕ) (left : List Span) (message : List ℕ) : Type 0 where
  pub fed : List ℕ
  pub held : Holds256 hasher fed
  pub whole : fed ++ bytes_between f from to left ≡ message

pub Meets-next : (hasher next : Sha256) (f : List ℕ) (from to : ℕ) (s : Span) (rest : List Span) (message : List ℕ)
    → Meets hasher f from to (s ∷ rest) message → ((m : List ℕ) → Holds256 hasher m → Holds256 next (m ++ slice_range f (max s.from from) (min s.to to)))
    → Meets next f from to rest message
Meets-next hasher next f from to s rest message h more = record {
  fed = h.fed ++ slice_range f (max s.from from) (min s.to to);
  held = more h.fed h.held;
  whole = append_assoc h.fed (slice_range f (max s.from from) (min s.to to)) (bytes_between f from to rest) ∙ h.whole;
}

pub Meets-end : (hasher : Sha256) (f : List ℕ) (from to : ℕ) (message : List ℕ) → Meets hasher f from to [] message → Holds256 hasher message
Meets-end hasher f from to message h = subst (Holds256 hasher) (sym (append-nil h.fed) ∙ h.whole) h.held
