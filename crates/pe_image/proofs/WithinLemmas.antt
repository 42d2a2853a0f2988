-- Bounds of a layout that the checks give.
use Rattle.std.proofs.Common.{◌≡◌, ◌+◌, ◌-◌, ◌≤◌, ◌<◌, ◌==◌, ◌++◌, ℕ, true, false, if◌then◌else◌, List, [], ◌∷◌, length, min, map, filter, find, Some, None, IfSome, nat_lt, nat_le, refl, sym, subst, ◌∙◌, inl, inr, arith}
use Rattle.std.specs.List.{list_all}
use Rattle.std.proofs.lemmas.Bool.{leb-true, and_from, and_parts, cases_lt}
use Rattle.std.proofs.lemmas.Bool.Decides.{nat_tests}
use Rattle.std.proofs.lemmas.List.Elements.{All-append, All-filter}
use Rattle.std.proofs.lemmas.List.Sums.{AllPass-from_list_all}
use Rattle.pe_image.specs.Checks.{IsLaid}
use Rattle.pe_image.specs.Headers.{is_raw, raw_of, span_of}
use Rattle.pe_image.specs.Image.{checksum_offset, has_certificate_directory, has_table, certificate_directory_offset, headers, size_of_headers, raw, sum_of_bytes_hashed, image_end, sections_end, table_offset, table_size}
use Rattle.pe_image.specs.Sbat.{is_sbat, sbat_section, text_at, text_size}
use Rattle.pe_image.specs.declared.header.Header.{Header}
use Rattle.pe_image.specs.Places.{Places, places_of, spans_of, table_of, IsLayoutOf}
use Rattle.pe_image.specs.Spans.{span, in_order, follows, are_apart, EndWithin, IsWithin, StandBetween}
use Rattle.pe_image.proofs.CheckLemmas.{IsPlaced, placed-from-laid, fixed-least}
use Rattle.pe_image.proofs.HashedLemmas.{image-end}
use Rattle.pe_image.proofs.OrderLemmas.{All-cons}
use Rattle.pe_image.proofs.PlacesLemmas.{header_spans, spans-of_file}
use Rattle.pe_image.proofs.RawLemmas.{raw-wide}
use Rattle.pe_image.proofs.SpanLemmas.{all-in_order, follows-in_order, reach-within}

-- the sections end within the file, and follow one another
sections-within : (f : List ℕ) → IsPlaced f → EndWithin (length f) (in_order (raw f))
sections-within f p =
    let each = AllPass-from_list_all (λ s. nat_le s.to (length f)) (in_order (raw f)) (all-in_order (λ s. nat_le s.to (length f)) (raw f) ∙ p.ends) in
    λ k d within. leb-true _ _ (each k d within)

sections-follow : (f : List ℕ) → IsPlaced f → follows (size_of_headers f) (in_order (raw f)) ≡ true
sections-follow f p =
    let z = size_of_headers f in
    follows-in_order z (raw f) (raw-wide f) ∙ and_from (list_all (λ s. nat_le z s.from) (raw f)) (are_apart (raw f)) p.low p.apart

-- no span passes a place
none-within : (n : ℕ) → EndWithin n []
none-within n = λ k d within. absurd (omega arith)

-- the hashed bytes of the headers lie within the file
headers-within : (f : List ℕ) → IsPlaced f → EndWithin (length f) (header_spans f)
headers-within f p =
    let n = length f in
    let least = fixed-least f in
    let header = p.header in
    let low = p.within in
    let early : checksum_offset f ≤ n = omega arith in
    let last = All-cons (λ s. s.to ≤ n) (span (checksum_offset f + 4) (size_of_headers f)) [] low (none-within n) in
    elim (has_certificate_directory f) as (λ b. has_certificate_directory f ≡ b → EndWithin n (if b then span 0 (checksum_offset f) ∷ span (checksum_offset f + 4) (certificate_directory_offset f) ∷ span (certificate_directory_offset f + 8) (size_of_headers f) ∷ [] else span 0 (checksum_offset f) ∷ span (checksum_offset f + 4) (size_of_headers f) ∷ [])) [
      | true ↦ λ is.
          let room = p.directory is in
          let rest = All-cons (λ s. s.to ≤ n) (span (certificate_directory_offset f + 8) (size_of_headers f)) [] low (none-within n) in
          let middle = All-cons (λ s. s.to ≤ n) (span (checksum_offset f + 4) (certificate_directory_offset f)) (span (certificate_directory_offset f + 8) (size_of_headers f) ∷ []) (omega arith) rest in
          All-cons (λ s. s.to ≤ n) (span 0 (checksum_offset f)) (span (checksum_offset f + 4) (certificate_directory_offset f) ∷ span (certificate_directory_offset f + 8) (size_of_headers f) ∷ []) early middle
      | false ↦ λ is. All-cons (λ s. s.to ≤ n) (span 0 (checksum_offset f)) (span (checksum_offset f + 4) (size_of_headers f) ∷ []) early last
    ] refl

-- all that is hashed does
pub spans-within : (f : List ℕ) → IsLaid f → EndWithin (length f) (spans_of (places_of f))
spans-within f laid =
    let p = placed-from-laid f laid in
    let n = length f in
    let last = image-end f p (reach-within (size_of_headers f) n (raw f) p.within p.ends) in
    let tail = All-cons (λ s. s.to ≤ n) (span (sum_of_bytes_hashed f) (image_end f)) [] last.1 (none-within n) in
    let front = All-append (λ s. s.to ≤ n) (header_spans f) (in_order (raw f)) (headers-within f p) (sections-within f p) in
    let all = All-append (λ s. s.to ≤ n) (header_spans f ++ in_order (raw f)) (span (sum_of_bytes_hashed f) (image_end f) ∷ []) front tail in
    subst (EndWithin n) (sym (spans-of_file f)) (All-filter (λ s. nat_lt s.from s.to) (λ s. s.to ≤ n) _ all)

-- the sections of a layout are in order between the headers and the end
pub sections-between : (f : List ℕ) → IsLaid f → StandBetween (places_of f).headers_end (length f) (places_of f).sections
unfolding places_of
sections-between f laid =
    let p = placed-from-laid f laid in
    record { follow = sections-follow f p; within = sections-within f p }

-- the certificate table does
table-within : (f : List ℕ) → IsPlaced f → IfSome (table_of f) (IsWithin (length f))
table-within f p = elim (has_table f) as (λ b. has_table f ≡ b → IfSome (if b then Some (span (table_offset f) (table_offset f + table_size f)) else None) (IsWithin (length f))) [
  | true ↦ λ is. let at = p.table is in (omega arith, omega arith)
  | false ↦ λ is. tt
] refl

text_size-least : (h : Header) → text_size h ≤ h.size_of_raw_data
text_size-least h = elim (h.virtual_size == 0) as (λ b. (if b then h.size_of_raw_data else min h.virtual_size h.size_of_raw_data) ≤ h.size_of_raw_data) [
  | true ↦ omega arith
  | false ↦ omega arith
]

-- the text of one section, whose raw data end within the first n bytes
text-within : (n : ℕ) (h : Header) → (0 < h.size_of_raw_data → h.pointer_to_raw_data + h.size_of_raw_data ≤ n) → IfSome (text_at (Some h)) (IsWithin n)
text-within n h fits = elim (cases_lt 0 (text_size h)) [
  | inl some ↦
      let test : nat_lt 0 (text_size h) ≡ true = grind (arith, nat_tests, some) in
      let least = text_size-least h in
      let end = fits (omega arith) in
      rw test (omega arith, omega arith)
  | inr none ↦
      let test : nat_lt 0 (text_size h) ≡ false = grind (arith, nat_tests, none) in
      rw test tt
]

-- bounds of all raw data are those of the first header's, and of the others'
first-within : (n : ℕ) (h : Header) (hs : List Header) → list_all (λ s. nat_le s.to n) (raw_of (h ∷ hs)) ≡ true → 0 < h.size_of_raw_data
    → h.pointer_to_raw_data + h.size_of_raw_data ≤ n
unfolding raw_of
first-within n h hs ends some =
    let test : nat_lt 0 h.size_of_raw_data ≡ true = grind (arith, nat_tests, some) in
    let both = and_parts (nat_le (h.pointer_to_raw_data + h.size_of_raw_data) n) _ (rw test at ends) in
    leb-true _ _ both.0

others-within : (n : ℕ) (h : Header) (hs : List Header) → list_all (λ s. nat_le s.to n) (raw_of (h ∷ hs)) ≡ true
    → list_all (λ s. nat_le s.to n) (raw_of hs) ≡ true
unfolding raw_of
others-within n h hs ends =
    elim (nat_lt 0 h.size_of_raw_data) as (λ b. list_all (λ s. nat_le s.to n) (map span_of (if b then h ∷ filter is_raw hs else filter is_raw hs)) ≡ true
    → list_all (λ s. nat_le s.to n) (map span_of (filter is_raw hs)) ≡ true) [
      | true ↦ λ all. (and_parts (nat_le (h.pointer_to_raw_data + h.size_of_raw_data) n) _ all).1
      | false ↦ λ all. all
    ] ends

-- the text of `.sbat` does
sbat-within : (n : ℕ) (hs : List Header) → list_all (λ s. nat_le s.to n) (raw_of hs) ≡ true → IfSome (text_at (find is_sbat hs)) (IsWithin n)
unfolding raw_of
sbat-within n [] ends = tt
sbat-within n (h ∷ hs) ends =
    elim (is_sbat h) as (λ b. IfSome (text_at (if b then Some h else find is_sbat hs)) (IsWithin n)) [
      | true ↦ text-within n h (first-within n h hs ends)
      | false ↦ sbat-within n hs (others-within n h hs ends)
    ]

-- the table and `.sbat` lie within the file, and the gap is no longer than it
record PartsWithin (f : List ℕ) (p : Places) : Type 0 where
  table : IfSome p.table (IsWithin (length f))
  sbat : IfSome p.sbat (IsWithin (length f))
  gap : p.gap ≤ length f

parts-within : (f : List ℕ) → IsLaid f → PartsWithin f (places_of f)
unfolding places_of sbat_section raw
parts-within f laid =
    let p = placed-from-laid f laid in
    let end = reach-within (size_of_headers f) (length f) (raw f) p.within p.ends in
    record {
      table = table-within f p;
      sbat = sbat-within (length f) (headers f) p.ends;
      gap = omega (arith, end);
    }

-- the gap of an image that is accepted is no longer than it
pub gap-within : (f : List ℕ) (size end between : ℕ) → IsLaid f → size ≡ sum_of_bytes_hashed f → end ≡ sections_end f → between ≡ end - size → between ≤ length f
unfolding places_of
gap-within f size end between laid sized reaches left =
    let gap : sections_end f - sum_of_bytes_hashed f ≤ length f = (parts-within f laid).gap in
    omega (arith, gap, sized, reaches, left)

-- the places of an image that is accepted are its layout
pub layout-of : (f : List ℕ) (p : Places) → IsLaid f → p ≡ places_of f → IsLayoutOf f p
layout-of f p laid is = record {
  laid = laid;
  places = is;
  sections = subst (λ q. StandBetween q.headers_end (length f) q.sections) (sym is) (sections-between f laid);
  hashed = subst (λ q. EndWithin (length f) (spans_of q)) (sym is) (spans-within f laid);
  table = subst (λ q. IfSome q.table (IsWithin (length f))) (sym is) (parts-within f laid).table;
  sbat = subst (λ q. IfSome q.sbat (IsWithin (length f))) (sym is) (parts-within f laid).sbat;
  gap = subst (λ q. q.gap ≤ length f) (sym is) (parts-within f laid).gap;
}
