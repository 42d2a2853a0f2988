-- The ranges that one pass meets, in order.
use Rattle.std.proofs.Common.{◌≡◌, ◌+◌, ◌-◌, ◌==◌, ◌<◌, ◌≤◌, ◌++◌, ℕ, zero, suc, true, false, cond, if◌then◌else◌, List, [], ◌∷◌, length, take, drop, nat_lt, refl, sym, ap, ◌∙◌, subst, append_assoc, append-nil, length-append, length-drop, max, arith}
use Rattle.std.proofs.Math.Seq.{take-append_seam, take-length}
use Rattle.std.proofs.lemmas.Bool.{ltb-true, ltb-false, eqb-true}
use Rattle.std.proofs.lemmas.List.{take-append-drop, take-take, drop-take, length-take-le}
use Rattle.std.proofs.lemmas.List.Concat.{flat_map-append}
use Rattle.std.proofs.lemmas.List.Elements.{All-take, filter-append}
use Rattle.pe_image.specs.Hashed.{hashed_bytes}
use Rattle.pe_image.specs.Image.{checksum_offset, has_certificate_directory, certificate_directory_offset, size_of_headers, raw, sum_of_bytes_hashed, image_end, gap}
use Rattle.pe_image.specs.Passes.{in_first_pass, first_pass_of, second_pass_of}
use Rattle.pe_image.specs.Places.{Places, IsLayoutOf, places_of, spans_of}
use Rattle.pe_image.specs.Spans.{span, nonempty, in_order, reach, bytes_at, StandBetween}
use Rattle.pe_image.specs.declared.span.Span.{Span}
use Rattle.pe_image.proofs.CheckLemmas.{IsPlaced, placed-from-laid, fixed-least}
use Rattle.pe_image.proofs.HashedLemmas.{image-end}
use Rattle.pe_image.proofs.PlacesLemmas.{header_spans, spans-of_file}
use Rattle.pe_image.proofs.RawLemmas.{raw-wide}
use Rattle.pe_image.proofs.SpanLemmas.{IsChain, chain-in_order, chain-size, follows-chain, reach-chain, reach-in_order, reach-within, size-in_order}

-- the spans follow one another from z on; a span may be empty
abbrev Ascends : ℕ → List Span → Type 0
Ascends z [] = Unit {0}
Ascends z (s ∷ ss) = (z ≤ s.from) × (s.from ≤ s.to) × Ascends s.to ss

Ascends-from : (z y : ℕ) (ss : List Span) → z ≤ y → Ascends y ss → Ascends z ss
Ascends-from z y [] le up = tt
Ascends-from z y (s ∷ ss) le up = let low : y ≤ s.from = up.0 in (omega arith, up.1, up.2)

-- those with a byte are a chain
chain-nonempty : (z : ℕ) (ss : List Span) → Ascends z ss → IsChain z (nonempty ss)
chain-nonempty z [] up = tt
chain-nonempty z (s ∷ ss) up =
    elim (nat_lt s.from s.to) as (λ b. nat_lt s.from s.to ≡ b → IsChain z (cond b (s ∷ nonempty ss) (nonempty ss))) [
      | true ↦ λ is. (up.0, ltb-true s.from s.to is, chain-nonempty s.to ss up.2)
      | false ↦ λ is.
          let empty : s.to ≤ s.from = ltb-false s.from s.to is in
          let low : z ≤ s.from = up.0 in
          let wide : s.from ≤ s.to = up.1 in
          chain-nonempty z ss (Ascends-from z s.to ss (omega arith) up.2)
    ] refl

-- a chain, and a span after it
Ascends-chain : (z : ℕ) (ss : List Span) → IsChain z ss → Ascends z ss
Ascends-chain z [] chain = tt
Ascends-chain z (s ∷ ss) chain = let wide : s.from < s.to = chain.1 in (chain.0, omega arith, Ascends-chain s.to ss chain.2)

Ascends-behind : (z : ℕ) (ss : List Span) (t : Span) → IsChain z ss → reach z ss ≤ t.from → t.from ≤ t.to → Ascends z (ss ++ t ∷ [])
Ascends-behind z [] t chain far wide = (far, wide, tt)
Ascends-behind z (s ∷ ss) t chain far wide =
    let full : s.from < s.to = chain.1 in
    let same = reach-chain z s ss chain in
    (chain.0, omega arith, Ascends-behind s.to ss t chain.2 (omega arith) wide)

-- the headers, and the spans after them
Ascends-headers : (f : List ℕ) (ss : List Span) → IsPlaced f → Ascends (size_of_headers f) ss → Ascends 0 (header_spans f ++ ss)
Ascends-headers f ss p up =
    let least = fixed-least f in
    let header = p.header in
    elim (has_certificate_directory f) as (λ b. has_certificate_directory f ≡ b → Ascends 0 ((if b then span 0 (checksum_offset f) ∷ span (checksum_offset f + 4) (certificate_directory_offset f) ∷ span (certificate_directory_offset f + 8) (size_of_headers f) ∷ [] else span 0 (checksum_offset f) ∷ span (checksum_offset f + 4) (size_of_headers f) ∷ []) ++ ss)) [
      | true ↦ λ is.
          let room = p.directory is in
          (omega arith, omega arith, (omega arith, omega arith, (omega arith, omega arith, up)))
      | false ↦ λ is. (omega arith, omega arith, (omega arith, omega arith, up))
    ] refl

-- a chain's beginning is one
chain-take : (n z : ℕ) (ss : List Span) → IsChain z ss → IsChain z (take n ss)
chain-take zero z ss chain = tt
chain-take (suc n) z [] chain = tt
chain-take (suc n) z (s ∷ ss) chain = (chain.0, chain.1, chain-take n s.to ss chain.2)

-- all but the last of spans with one more, unless that is empty
chain-but_last : (z : ℕ) (ss : List Span) (t : Span) → IsChain z ss → IsChain z (take (length (ss ++ nonempty (t ∷ [])) - 1) (ss ++ nonempty (t ∷ [])))
chain-but_last z ss t chain =
    elim (nat_lt t.from t.to) as (λ b. IsChain z (take (length (ss ++ cond b (t ∷ []) []) - 1) (ss ++ cond b (t ∷ []) []))) [
      | true ↦
          let both = length-append ss (t ∷ []) in
          let size : length (ss ++ t ∷ []) - 1 ≡ length ss = omega arith in
          subst (IsChain z) (sym (ap (λ n. take n (ss ++ t ∷ [])) size ∙ take-append_seam ss (t ∷ []))) chain
      | false ↦ chain-take (length (ss ++ []) - 1) z (ss ++ []) (subst (IsChain z) (sym (append-nil ss)) chain)
    ]

-- the sections of an image in order
sections-chain : (f : List ℕ) → IsPlaced f → IsChain (size_of_headers f) (in_order (raw f))
sections-chain f p = chain-in_order (size_of_headers f) (raw f) (raw-wide f) p.low p.apart

-- without a gap all of the ranges
gapless-chain : (f : List ℕ) → IsPlaced f → gap f ≡ 0 → IsChain 0 (spans_of (places_of f))
gapless-chain f p gapless =
    let z = size_of_headers f in
    let chain = sections-chain f p in
    let least = chain-size z (in_order (raw f)) chain in
    let sizes = size-in_order (raw f) in
    let far = reach-in_order z (raw f) in
    let fits = reach-within z (length f) (raw f) p.within p.ends in
    let last = image-end f p fits in
    let low : reach z (in_order (raw f)) ≤ sum_of_bytes_hashed f = omega arith in
    let wide : sum_of_bytes_hashed f ≤ image_end f = omega (arith, last.0) in
    let body = Ascends-behind z (in_order (raw f)) (span (sum_of_bytes_hashed f) (image_end f)) chain low wide in
    let all = Ascends-headers f (in_order (raw f) ++ span (sum_of_bytes_hashed f) (image_end f) ∷ []) p body in
    let grouped = append_assoc (header_spans f) (in_order (raw f)) (span (sum_of_bytes_hashed f) (image_end f) ∷ []) in
    subst (IsChain 0) (sym (spans-of_file f)) (chain-nonempty 0 _ (subst (Ascends 0) (sym grouped) all))

-- with one all but the last
front-chain : (f : List ℕ) → IsPlaced f → IsChain 0 (take (length (spans_of (places_of f)) - 1) (spans_of (places_of f)))
front-chain f p =
    let t = span (sum_of_bytes_hashed f) (image_end f) in
    let front = header_spans f ++ in_order (raw f) in
    let chain = chain-nonempty 0 front (Ascends-headers f (in_order (raw f)) p (Ascends-chain (size_of_headers f) (in_order (raw f)) (sections-chain f p))) in
    let parts = spans-of_file f ∙ filter-append (λ s. nat_lt s.from s.to) front (t ∷ []) in
    subst (λ ss. IsChain 0 (take (length ss - 1) ss)) (sym parts) (chain-but_last 0 (nonempty front) t chain)

gap_is : (f : List ℕ) → (places_of f).gap ≡ gap f
unfolding places_of
gap_is f = refl

first-chain-of : (f : List ℕ) → IsPlaced f → IsChain 0 (first_pass_of (places_of f))
first-chain-of f p =
    let ss = spans_of (places_of f) in
    elim ((places_of f).gap == 0) as (λ b. ((places_of f).gap == 0) ≡ b → IsChain 0 (take (if b then length ss else length ss - 1) ss)) [
      | true ↦ λ is. subst (IsChain 0) (sym (take-length ss)) (gapless-chain f p (sym (gap_is f) ∙ eqb-true _ _ is))
      | false ↦ λ is. front-chain f p
    ] refl

-- the ranges of the first pass are a chain
pub first-chain : (f : List ℕ) (p : Places) → IsLayoutOf f p → IsChain 0 (first_pass_of p)
first-chain f p layout =
    let placed = placed-from-laid f layout.laid in
    subst (λ (q : Places). IsChain 0 (first_pass_of q)) (sym layout.places) (first-chain-of f placed)

-- the ranges of both passes are all ranges
pub passes-joined : (f : List ℕ) (p : Places) → p ≡ places_of f → bytes_at f (first_pass_of p) ++ bytes_at f (second_pass_of p) ≡ hashed_bytes f
passes-joined f p same =
    sym (flat_map-append _ (first_pass_of p) (second_pass_of p)) ∙ ap (bytes_at f) (take-append-drop (in_first_pass p) (spans_of p) ∙ ap spans_of same)

-- so they are in order within the file
pub first-between : (f : List ℕ) (p : Places) → IsLayoutOf f p → StandBetween 0 (length f) (first_pass_of p)
first-between f p layout = record {
  follow = follows-chain 0 (first_pass_of p) (first-chain f p layout);
  within = All-take (λ s. s.to ≤ length f) (in_first_pass p) (spans_of p) layout.hashed;
}

-- all but the last of what is left of the first `end`
pub but-last-left : (xs : List Span) (from end next : ℕ) → from ≤ end → end ≤ length xs → next ≡ max (end - 1) from
    → drop from (take next xs) ≡ take (length (drop from (take end xs)) - 1) (drop from (take end xs))
but-last-left xs from end next le fits is =
    let rest = drop from xs in
    let upto : end ≡ from + (end - from) = omega arith in
    let left : drop from (take end xs) ≡ take (end - from) rest = ap (λ n. drop from (take n xs)) upto ∙ drop-take from (end - from) xs in
    let size : length (take (end - from) rest) ≡ end - from = length-take-le (end - from) rest (omega (arith, length-drop from xs)) in
    let fewer : next ≡ from + ((end - from) - 1) = omega arith in
    ap (λ n. drop from (take n xs)) fewer ∙ drop-take from ((end - from) - 1) xs
    ∙ sym (take-take ((end - from) - 1) (end - from) rest (omega arith))
    ∙ ap (λ n. take (n - 1) (take (end - from) rest)) (sym size) ∙ ap (λ l. take (length l - 1) l) (sym left)

-- without a gap the first pass has all ranges
pub first-gapless : (p : Places) → p.gap ≡ 0 → spans_of p ≡ first_pass_of p
first-gapless p gapless =
    let ss = spans_of p in
    let test : (p.gap == 0) ≡ true = ap (λ n. n == 0) gapless in
    sym (ap (λ b. take (if b then length ss else length ss - 1) ss) test ∙ take-length ss)
