-- An image without a gap, which is hashed but for CheckSum, the entry and the table.
use Rattle.std.proofs.Common.{◌≡◌, ◌+◌, ◌-◌, ◌≤◌, ◌++◌, ℕ, true, false, cond, if◌then◌else◌, List, [], ◌∷◌, length, take, drop, slice_range, nat_lt, refl, sym, ap, ◌∙◌, append_assoc, append-nil, arith}
use Rattle.std.proofs.lemmas.List.{take-take, take-append-le, drop-append-le, drop-take, length-take-le}
use Rattle.std.proofs.lemmas.List.Concat.{flat_map-append}
use Rattle.std.proofs.lemmas.Bool.{ltb-false}
use Rattle.pe_image.specs.Spans.{span, reach, in_order, nonempty, bytes_at, without}
use Rattle.pe_image.specs.Image.{checksum_offset, has_certificate_directory, certificate_directory_offset, size_of_headers, raw, sum_of_bytes_hashed, image_end, gap, has_table, table_offset, sections_end}
use Rattle.pe_image.specs.Hashed.{plain, HashesAllElse}
use Rattle.pe_image.proofs.PlacesLemmas.{header_spans, spans-of_file}
use Rattle.pe_image.proofs.SpanLemmas.{reach-within, slice_range-join, reach-above, chain-size, chain-bytes, chain-in_order, size-in_order, reach-in_order}
use Rattle.pe_image.proofs.RawLemmas.{raw-wide}
use Rattle.pe_image.proofs.CheckLemmas.{IsPlaced, placed-from-laid, fixed-least}
use Rattle.pe_image.specs.declared.span.Span.{Span}

-- a slice that ends before it begins
empty-slice : (f : List ℕ) (i j : ℕ) → j ≤ i → slice_range f i j ≡ []
empty-slice f i j h = let none : j - i ≡ 0 = omega arith in ap (λ n. take n (drop i f)) none

-- the empty spans have no bytes
pub bytes-nonempty : (f : List ℕ) (ss : List Span) → bytes_at f (nonempty ss) ≡ bytes_at f ss
bytes-nonempty f [] = refl
bytes-nonempty f (s ∷ ss) =
    let rest = bytes-nonempty f ss in
    elim (nat_lt s.from s.to) as (λ b. nat_lt s.from s.to ≡ b → bytes_at f (cond b (s ∷ nonempty ss) (nonempty ss)) ≡ slice_range f s.from s.to ++ bytes_at f ss) [
      | true ↦ λ is. ap (λ l. slice_range f s.from s.to ++ l) rest
      | false ↦ λ is. rest ∙ ap (λ l. l ++ bytes_at f ss) (sym (empty-slice f s.from s.to (ltb-false s.from s.to is)))
    ] refl

-- f without one part, and without two
one-cut : (f : List ℕ) (a b v : ℕ) → a ≤ b → b ≤ v → v ≤ length f → without a b (take v f) ≡ slice_range f 0 a ++ slice_range f b v
one-cut f a b v ab bv fits =
    let front : take a (take v f) ≡ take a f = take-take a v f (omega arith) in
    let whole : b + (v - b) ≡ v = omega arith in
    let back : drop b (take v f) ≡ take (v - b) (drop b f) = ap (λ n. drop b (take n f)) (sym whole) ∙ drop-take b (v - b) f in
    let none : a - 0 ≡ a = omega arith in
    ap (λ l. l ++ drop b (take v f)) front ∙ ap (λ l. take a f ++ l) back ∙ ap (λ n. take n f ++ slice_range f b v) (sym none)

two-cuts : (f : List ℕ) (a b c d v : ℕ) → a ≤ b → b ≤ c → c ≤ d → d ≤ v → v ≤ length f → without a b (without c d (take v f)) ≡ slice_range f 0 a ++ (slice_range f b c ++ slice_range f d v)
two-cuts f a b c d v ab bc cd dv fits =
    let short : take c (take v f) ≡ take c f = take-take c v f (omega arith) in
    let wide : length (take c f) ≡ c = length-take-le c f (omega arith) in
    let tail = drop d (take v f) in
    let front : take a (take c f ++ tail) ≡ take a (take c f) = take-append-le a (take c f) tail (omega arith) in
    let back : drop b (take c f ++ tail) ≡ drop b (take c f) ++ tail = drop-append-le b (take c f) tail (omega arith) in
    let first = one-cut f a b c ab bc (omega arith) in
    let whole : d + (v - d) ≡ v = omega arith in
    let end : tail ≡ slice_range f d v = ap (λ n. drop d (take n f)) (sym whole) ∙ drop-take d (v - d) f in
    let split : take a (take c f ++ tail) ++ drop b (take c f ++ tail) ≡ take a (take c f) ++ (drop b (take c f) ++ tail) = cc in
    let grouped = append_assoc (take a (take c f)) (drop b (take c f)) tail in
    let parts = append_assoc (slice_range f 0 a) (slice_range f b c) (slice_range f d v) in
    ap (λ l. take a (l ++ tail) ++ drop b (l ++ tail)) short ∙ split ∙ sym grouped ∙ ap (λ l. l ++ tail) first ∙ ap (λ l. (slice_range f 0 a ++ slice_range f b c) ++ l) end ∙ parts

-- three parts of the headers, and what follows them
three-and : (x y z w : List ℕ) → (x ++ (y ++ (z ++ []))) ++ w ≡ x ++ (y ++ (z ++ w))
three-and x y z w = simp (append_assoc, append-nil)

-- two parts of the headers, and what follows them
two-and : (x y w : List ℕ) → (x ++ (y ++ [])) ++ w ≡ x ++ (y ++ w)
two-and x y w = simp (append_assoc, append-nil)

-- the hashed bytes end within the file, at the end of the sections or after it
pub image-end : (f : List ℕ) → IsPlaced f → sections_end f ≤ length f → (sections_end f ≤ image_end f) × (image_end f ≤ length f)
image-end f p within =
    elim (has_table f) as (λ b. has_table f ≡ b → (sections_end f ≤ (if b then table_offset f else length f)) × ((if b then table_offset f else length f) ≤ length f)) [
      | true ↦ λ is. let both = p.table is in (both.1, omega arith)
      | false ↦ λ is. (within, omega arith)
    ] refl

-- without a gap the sections and what follows them are all that follows the headers
pub body-bytes : (f : List ℕ) → IsPlaced f → gap f ≡ 0 → (size_of_headers f ≤ image_end f) × (image_end f ≤ length f) × (bytes_at f (in_order (raw f)) ++ slice_range f (sum_of_bytes_hashed f) (image_end f) ≡ slice_range f (size_of_headers f) (image_end f))
body-bytes f p gapless =
    let z = size_of_headers f in
    let end = sections_end f in
    let chain = chain-in_order z (raw f) (raw-wide f) p.low p.apart in
    let least = chain-size z (in_order (raw f)) chain in
    let sizes = size-in_order (raw f) in
    let far = reach-in_order z (raw f) in
    let above = reach-above z (raw f) in
    let full : end ≡ sum_of_bytes_hashed f = omega arith in
    let fits = reach-within z (length f) (raw f) p.within p.ends in
    let last = image-end f p fits in
    let sections : bytes_at f (in_order (raw f)) ≡ slice_range f z (reach z (in_order (raw f))) = chain-bytes f z (in_order (raw f)) chain (omega arith) (omega arith) in
    let joined = slice_range-join f z end (image_end f) above last.0 fits in
    (omega arith, last.1, ap (λ l. l ++ slice_range f (sum_of_bytes_hashed f) (image_end f)) (sections ∙ ap (λ n. slice_range f z n) far) ∙ ap (λ n. slice_range f z end ++ slice_range f n (image_end f)) (sym full) ∙ joined)

-- the law of the hashed bytes
pub hashes-all-else : HashesAllElse
unfolding plain
hashes-all-else f laid gapless =
    let p = placed-from-laid f laid in
    let z = size_of_headers f in
    let v = image_end f in
    let body = body-bytes f p gapless in
    let least = fixed-least f in
    let header = p.header in
    let a = checksum_offset f in
    let b = checksum_offset f + 4 in
    let ss = in_order (raw f) in
    let tail = slice_range f (sum_of_bytes_hashed f) v in
    let full = bytes-nonempty f (header_spans f ++ ss ++ span (sum_of_bytes_hashed f) v ∷ []) in
    let parts = flat_map-append (λ s. slice_range f s.from s.to) (header_spans f ++ ss) (span (sum_of_bytes_hashed f) v ∷ []) in
    let heads = flat_map-append (λ s. slice_range f s.from s.to) (header_spans f) ss in
    let head = bytes_at f (header_spans f) in
    let whole : bytes_at f (header_spans f ++ ss ++ span (sum_of_bytes_hashed f) v ∷ []) ≡ head ++ slice_range f z v =
    parts ∙ ap (λ l. l ++ (tail ++ [])) heads ∙ append_assoc head (bytes_at f ss) (tail ++ []) ∙ ap (λ l. head ++ (bytes_at f ss ++ l)) (append-nil tail) ∙ ap (λ l. head ++ l) body.2 in
    let rest : head ++ slice_range f z v ≡ plain f =
    elim (has_certificate_directory f) as (λ e. has_certificate_directory f ≡ e → bytes_at f (if e then span 0 a ∷ span b (certificate_directory_offset f) ∷ span (certificate_directory_offset f + 8) z ∷ [] else span 0 a ∷ span b z ∷ []) ++ slice_range f z v ≡ (if e then without a b (without (certificate_directory_offset f) (certificate_directory_offset f + 8) (take v f)) else without a b (take v f))) [
      | true ↦ λ is.
          let room = p.directory is in
          let joined = slice_range-join f (certificate_directory_offset f + 8) z v room body.0 p.within in
          let cut = two-cuts f a b (certificate_directory_offset f) (certificate_directory_offset f + 8) v (omega arith) (omega arith) (omega arith) (omega arith) body.1 in
          three-and (slice_range f 0 a) (slice_range f b (certificate_directory_offset f)) (slice_range f (certificate_directory_offset f + 8) z) (slice_range f z v) ∙ ap (λ l. slice_range f 0 a ++ (slice_range f b (certificate_directory_offset f) ++ l)) joined ∙ sym cut
      | false ↦ λ is.
          let joined = slice_range-join f b z v (omega arith) body.0 p.within in
          let cut = one-cut f a b v (omega arith) (omega arith) body.1 in
          two-and (slice_range f 0 a) (slice_range f b z) (slice_range f z v) ∙ ap (λ l. slice_range f 0 a ++ l) joined ∙ sym cut
    ] refl in
    ap (bytes_at f) (spans-of_file f) ∙ full ∙ whole ∙ rest
