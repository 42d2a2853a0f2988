-- The spans of a layout, part by part.
use Rattle.std.proofs.Common.{◌≡◌, ◌+◌, ◌-◌, ◌<◌, length, ◌++◌, ℕ, true, false, if◌then◌else◌, List, [], ◌∷◌, nat_lt, Option, Some, None, refl, sym, ap, ◌∙◌, arith}
use Rattle.std.specs.Prelude.{All}
use Rattle.std.proofs.lemmas.Bool.{ltb-true}
use Rattle.std.proofs.lemmas.List.Elements.{filter-append, filter_passes}
use Rattle.pe_image.specs.Spans.{span, nonempty, in_order}
use Rattle.pe_image.specs.Places.{Places, around, end_by, certificate_directory_of, table_of, spans_of, places_of}
use Rattle.pe_image.specs.Image.{headers, checksum_offset, has_certificate_directory, certificate_directory_offset, size_of_headers, raw, sum_of_bytes_hashed, sections_end, pe_signature_offset, has_table, table_offset, table_size, image_end}
use Rattle.pe_image.specs.Sbat.{text_at, sbat_section}
use Rattle.pe_image.specs.declared.span.Span.{Span}

-- the spans of the headers, of the sections and of what follows them
pub spans-parts : (p : Places) → spans_of p ≡ nonempty (around p.checksum p.certificate_directory p.headers_end) ++ nonempty p.sections ++ nonempty (span p.sum_of_bytes_hashed p.image_end ∷ [])
unfolding spans_of
spans-parts p =
    filter-append (λ s. nat_lt s.from s.to) (around p.checksum p.certificate_directory p.headers_end ++ p.sections) (span p.sum_of_bytes_hashed p.image_end ∷ []) ∙ ap (λ l. l ++ nonempty (span p.sum_of_bytes_hashed p.image_end ∷ [])) (filter-append (λ s. nat_lt s.from s.to) (around p.checksum p.certificate_directory p.headers_end) p.sections)

-- the headers without CheckSum and the entry
abbrev pub header_spans : List ℕ → List Span
header_spans f =
    if has_certificate_directory f
    then span 0 (checksum_offset f) ∷ span (checksum_offset f + 4) (certificate_directory_offset f) ∷ span (certificate_directory_offset f + 8) (size_of_headers f) ∷ []
    else span 0 (checksum_offset f) ∷ span (checksum_offset f + 4) (size_of_headers f) ∷ []

-- the spans of the layout of a file
pub spans-of_file : (f : List ℕ) → spans_of (places_of f) ≡ nonempty (header_spans f ++ in_order (raw f) ++ span (sum_of_bytes_hashed f) (image_end f) ∷ [])
unfolding spans_of places_of
spans-of_file f =
    elim (has_certificate_directory f) as (λ b. nonempty (around (span (checksum_offset f) (checksum_offset f + 4)) (if b then Some (span (certificate_directory_offset f) (certificate_directory_offset f + 8)) else None) (size_of_headers f) ++ in_order (raw f) ++ span (sum_of_bytes_hashed f) (image_end f) ∷ []) ≡ nonempty ((if b then span 0 (checksum_offset f) ∷ span (checksum_offset f + 4) (certificate_directory_offset f) ∷ span (certificate_directory_offset f + 8) (size_of_headers f) ∷ [] else span 0 (checksum_offset f) ∷ span (checksum_offset f + 4) (size_of_headers f) ∷ []) ++ in_order (raw f) ++ span (sum_of_bytes_hashed f) (image_end f) ∷ [])) [
      | true ↦ refl
      | false ↦ refl
    ]

-- a list that was put together part by part
pub spans-pushed : (p q : Places) (headers sections all : List Span) → p ≡ q → headers ≡ nonempty (around p.checksum p.certificate_directory p.headers_end) → sections ≡ headers ++ nonempty p.sections → all ≡ sections ++ nonempty (span p.sum_of_bytes_hashed p.image_end ∷ []) → all ≡ spans_of q
spans-pushed p q headers sections all same first second third =
    let last = nonempty (span p.sum_of_bytes_hashed p.image_end ∷ []) in
    third ∙ ap (λ l. l ++ last) (second ∙ ap (λ l. l ++ nonempty p.sections) first) ∙ sym (spans-parts p) ∙ ap spans_of same

-- where the hashed bytes of a file end
end-by_table : (f : List ℕ) → end_by (table_of f) (length f) ≡ image_end f
end-by_table f = elim (has_table f) as (λ b. end_by (if b then Some (span (table_offset f) (table_offset f + table_size f)) else None) (length f) ≡ (if b then table_offset f else length f)) [ true ↦ refl | false ↦ refl ]

-- the places that were read part by part are those of the file
pub places-read : (f : List ℕ) (checksum_read : Span) (z size end between last size_read : ℕ) (entry_read table_read text_read : Option Span) (ss : List Span)
    → checksum_read ≡ span (pe_signature_offset f + 88) (pe_signature_offset f + 88 + 4)
    → entry_read ≡ certificate_directory_of f
    → z ≡ size_of_headers f
    → ss ≡ in_order (raw f)
    → size ≡ sum_of_bytes_hashed f
    → end ≡ sections_end f
    → table_read ≡ table_of f
    → last ≡ end_by table_read (length f)
    → size_read ≡ length f
    → between ≡ end - size
    → text_read ≡ text_at (sbat_section (headers f))
    → record { checksum = checksum_read; certificate_directory = entry_read; headers_end = z; sections = ss; sum_of_bytes_hashed = size; image_end = last; length = size_read; gap = between; table = table_read; sbat = text_read } ≡ places_of f
unfolding places_of
places-read f checksum_read z size end between last size_read entry_read table_read text_read ss at has above sections sized reaches table lasts long left text =
    let until : last ≡ image_end f = lasts ∙ ap (λ t. end_by t (length f)) table ∙ end-by_table f in
    let sum : pe_signature_offset f + 88 ≡ checksum_offset f = omega arith in
    cc

-- no span is empty
pub spans-full : (p : Places) → All (λ s. s.from < s.to) (spans_of p)
unfolding spans_of
spans-full p =
    let all = around p.checksum p.certificate_directory p.headers_end ++ p.sections ++ span p.sum_of_bytes_hashed p.image_end ∷ [] in
    λ k d within. ltb-true _ _ (filter_passes (λ s. nat_lt s.from s.to) all k d within)
