-- Raw sections, each of which has bytes.
use Rattle.std.proofs.Common.{◌≡◌, ◌+◌, ℕ, true, false, cond, List, [], ◌∷◌, map, filter, nat_lt, refl, ap, ◌∙◌, arith}
use Rattle.std.specs.List.{list_all}
use Rattle.std.proofs.lemmas.Bool.{ltb-true, lt-ltb, and_from}
use Rattle.pe_image.specs.Headers.{is_raw, span_of, raw_of, headers_from}
use Rattle.pe_image.specs.Image.{raw, headers, sections_begin, number_of_sections}
use Rattle.pe_image.specs.declared.header.Header.{Header}

-- each has one at least
pub raw_of-wide : (hs : List Header) → list_all (λ s. nat_lt s.from s.to) (raw_of hs) ≡ true
unfolding raw_of
raw_of-wide [] = refl
raw_of-wide (h ∷ hs) =
    let rest = raw_of-wide hs in
    elim (is_raw h) as (λ b. is_raw h ≡ b → list_all (λ s. nat_lt s.from s.to) (map span_of (cond b (h ∷ filter is_raw hs) (filter is_raw hs))) ≡ true) [
      | true ↦ λ is.
          let some = ltb-true 0 h.size_of_raw_data is in
          let from = h.pointer_to_raw_data in
          and_from _ _ (lt-ltb from (from + h.size_of_raw_data) (omega arith)) rest
      | false ↦ λ is. rest
    ] refl

pub raw-wide : (f : List ℕ) → list_all (λ s. nat_lt s.from s.to) (raw f) ≡ true
unfolding raw
raw-wide f = raw_of-wide (headers f)

-- the headers that were read are the file's
pub headers-read : (f : List ℕ) (begin count : ℕ) (hs : List Header) → begin ≡ sections_begin f → count ≡ number_of_sections f → hs ≡ headers_from f begin count → hs ≡ headers f
unfolding headers
headers-read f begin count hs from many read = read ∙ ap (λ n. headers_from f n count) from ∙ ap (headers_from f (sections_begin f)) many

-- and so are the raw sections
pub raw-read : (f : List ℕ) (hs : List Header) → hs ≡ headers f → raw_of hs ≡ raw f
unfolding raw
raw-read f hs is = ap raw_of is
