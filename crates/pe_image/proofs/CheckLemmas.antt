-- The checks where none fails.
use Rattle.std.proofs.Common.{◌≡◌, ◌+◌, ◌*◌, ◌^◌, sum_by, ◌≤◌, ◌<◌, ◌&&◌, ◌||◌, ℕ, Bool, true, false, if◌then◌else◌, not, List, [], ◌∷◌, length, nat_le, ◌==◌, Some, None, refl, sym, ap, ◌∙◌, arith}
use Rattle.std.specs.List.{list_all}
use Rattle.std.proofs.lemmas.Bool.{leb-true, eqb-true, and_parts}
use Rattle.base.specs.Limits.{longest_image}
use Rattle.pe_image.specs.Checks.{AllHold, IsLaid, first_of, section_checks}
use Rattle.pe_image.specs.Image.{optional_header_offset, number_of_sections, size_of_optional_header, magic, pe32_plus, fixed_size, size_of_headers, has_certificate_directory, certificate_directory_offset, table_offset, table_size, has_table, sections_begin, sections_end, sum_of_bytes_hashed, raw}
use Rattle.pe_image.specs.Headers.{raw_of}
use Rattle.pe_image.specs.Spans.{are_apart, in_order, follows, reach, size_of}
use Rattle.pe_image.specs.declared.fault.LayoutFault.TheVariants.{Sections, Overlap}
use Rattle.pe_image.proofs.SpanLemmas.{all-in_order, follows-in_order, chain-in_order, chain-size, size-in_order, reach-in_order, reach-within}
use Rattle.pe_image.proofs.RawLemmas.{raw-wide, raw_of-wide}
use Rattle.pe_image.specs.declared.fault.LayoutFault.{LayoutFault}
use Rattle.pe_image.specs.declared.header.Header.{Header}
use Rattle.pe_image.specs.declared.span.Span.{Span}

-- where no check gives a fault, each holds, and the other way round
pub hold-from-none : (cs : List (Bool × LayoutFault)) → first_of cs ≡ None → AllHold cs
hold-from-none [] none = tt
hold-from-none (c ∷ cs) none =
    elim c.0 as (λ b. (if b then first_of cs else Some c.1) ≡ None → (b ≡ true) × AllHold cs) [
      | true ↦ λ h. (refl, hold-from-none cs h)
      | false ↦ λ h. cc
    ] none

pub none-from-hold : (cs : List (Bool × LayoutFault)) → AllHold cs → first_of cs ≡ None
none-from-hold [] hold = refl
none-from-hold (c ∷ cs) hold = let rest = none-from-hold cs hold.1 in let here : c.0 ≡ true = hold.0 in rw here rest

-- the optional header has 96 bytes at least
pub fixed-least : (f : List ℕ) → 96 ≤ fixed_size f
fixed-least f = elim (magic f == pe32_plus) as (λ b. 96 ≤ (if b then 112 else 96)) [ true ↦ omega arith | false ↦ omega arith ]

-- the sections of an image, and its places in order
pub record IsPlaced (f : List ℕ) : Type 0 where
  pub low : list_all (λ s. nat_le (size_of_headers f) s.from) (raw f) ≡ true
  pub apart : are_apart (raw f) ≡ true
  pub header : optional_header_offset f + fixed_size f ≤ size_of_headers f
  pub directory : has_certificate_directory f ≡ true → certificate_directory_offset f + 8 ≤ size_of_headers f
  pub within : size_of_headers f ≤ length f
  pub ends : list_all (λ s. nat_le s.to (length f)) (raw f) ≡ true
  pub table : has_table f ≡ true → (table_offset f + table_size f ≡ length f) × (sections_end f ≤ table_offset f)

-- the conclusion of a check whose condition holds
without-not : (p q : Bool) → (not p || q) ≡ true → p ≡ true → q ≡ true
without-not true q h e = h
without-not false q h e = cc

-- an image whose checks hold has its parts in place
pub placed-from-laid : (f : List ℕ) → IsLaid f → IsPlaced f
placed-from-laid f laid =
    let rest = laid.1.1.1.1.1.1 in
    let sizes = and_parts (nat_le (fixed_size f) (size_of_optional_header f)) (nat_le (sections_begin f) (length f)) rest.0 in
    let size = leb-true (fixed_size f) (size_of_optional_header f) sizes.0 in
    let fits = and_parts (nat_le (sections_begin f + 40 * number_of_sections f) (size_of_headers f)) (nat_le (size_of_headers f) (length f)) rest.1.1.1.1.0 in
    let up : sections_begin f + 40 * number_of_sections f ≤ size_of_headers f = leb-true _ _ fits.0 in
    let last = rest.1.1.1.1.1 in
    let apart = and_parts (list_all (λ s. nat_le (size_of_headers f) s.from) (raw f)) (are_apart (raw f)) last.1.0 in
    record {
      low = apart.0;
      apart = apart.1;
      header = omega arith;
      directory = λ has.
          let wide : fixed_size f + 40 ≤ size_of_optional_header f = leb-true _ _ (without-not (has_certificate_directory f) _ rest.1.0 has) in
          omega arith;
      within = leb-true (size_of_headers f) (length f) fits.1;
      ends = last.0;
      table = λ has.
          let both = and_parts (table_offset f + table_size f == length f) (nat_le (sections_end f) (table_offset f)) (without-not (has_table f) _ last.1.1.0 has) in
          (eqb-true (table_offset f + table_size f) (length f) both.0, leb-true (sections_end f) (table_offset f) both.1);
    }

-- the two tests on the sections in order decide those on the sections of the headers
ends-are : (hs : List Header) (ss : List Span) (n : ℕ) (r b : Bool) → ss ≡ in_order (raw_of hs) → r ≡ list_all (λ s. nat_le s.to n) ss → r ≡ b → list_all (λ s. nat_le s.to n) (raw_of hs) ≡ b
ends-are hs ss n r b is test answer = sym (test ∙ ap (list_all (λ s. nat_le s.to n)) is ∙ all-in_order (λ s. nat_le s.to n) (raw_of hs)) ∙ answer

apart-are : (hs : List Header) (ss : List Span) (z : ℕ) (r b : Bool) → ss ≡ in_order (raw_of hs) → r ≡ follows z ss → r ≡ b → (list_all (λ s. nat_le z s.from) (raw_of hs) && are_apart (raw_of hs)) ≡ b
apart-are hs ss z r b is test answer = sym (test ∙ ap (follows z) is ∙ follows-in_order z (raw_of hs) (raw_of-wide hs)) ∙ answer

-- a section passes the end of the file
pub sections-past : (hs : List Header) (ss : List Span) (z n : ℕ) (r : Bool) → ss ≡ in_order (raw_of hs) → r ≡ list_all (λ s. nat_le s.to n) ss → r ≡ false → first_of (section_checks (raw_of hs) z n) ≡ Some Sections
sections-past hs ss z n r is test answer = let ends = ends-are hs ss n r false is test answer in rw ends refl

-- a section begins too early, or shares a byte with another
pub sections-overlap : (hs : List Header) (ss : List Span) (z n : ℕ) (r q : Bool) → ss ≡ in_order (raw_of hs) → r ≡ list_all (λ s. nat_le s.to n) ss → r ≡ true → q ≡ follows z ss → q ≡ false → first_of (section_checks (raw_of hs) z n) ≡ Some Overlap
sections-overlap hs ss z n r q is test answer row broken =
    let ends = ends-are hs ss n r true is test answer in
    let apart = apart-are hs ss z q false is row broken in
    rw ends (rw apart refl)

-- the sections are as they must be
pub sections-hold : (hs : List Header) (ss : List Span) (z n : ℕ) (r q : Bool) → ss ≡ in_order (raw_of hs) → r ≡ list_all (λ s. nat_le s.to n) ss → r ≡ true → q ≡ follows z ss → q ≡ true → first_of (section_checks (raw_of hs) z n) ≡ None
sections-hold hs ss z n r q is test answer row holds =
    let ends = ends-are hs ss n r true is test answer in
    let apart = apart-are hs ss z q true is row holds in
    rw ends (rw apart refl)

-- sections that are as they must be end within the file, and their bytes are at most those up to
-- there
pub sections-fit : (f : List ℕ) → first_of (section_checks (raw f) (size_of_headers f) (length f)) ≡ None → size_of_headers f ≤ length f → (sum_of_bytes_hashed f ≤ sections_end f) × (sections_end f ≤ length f)
sections-fit f none low =
    let holds = hold-from-none (section_checks (raw f) (size_of_headers f) (length f)) none in
    let apart = and_parts (list_all (λ s. nat_le (size_of_headers f) s.from) (raw f)) (are_apart (raw f)) holds.1.0 in
    let chain = chain-in_order (size_of_headers f) (raw f) (raw-wide f) apart.0 apart.1 in
    let least = chain-size (size_of_headers f) (in_order (raw f)) chain in
    let sizes = size-in_order (raw f) in
    let far = reach-in_order (size_of_headers f) (raw f) in
    (omega arith, reach-within (size_of_headers f) (length f) (raw f) low holds.0)

-- the sections in order, as they were read: their size with that of the headers, and where they end
pub sections-size : (f : List ℕ) (ss : List Span) (z : ℕ) → ss ≡ in_order (raw f) → z ≡ size_of_headers f → z + sum_by size_of ss ≡ sum_of_bytes_hashed f
sections-size f ss z is end =
    let size : sum_by size_of ss ≡ sum_by size_of (raw f) = ap (sum_by size_of) is ∙ size-in_order (raw f) in
    omega arith

pub sections-reach : (f : List ℕ) (ss : List Span) (z : ℕ) → ss ≡ in_order (raw f) → z ≡ size_of_headers f → reach z ss ≡ sections_end f
sections-reach f ss z is end = ap (reach z) is ∙ ap (λ n. reach n (in_order (raw f))) end ∙ reach-in_order (size_of_headers f) (raw f)

-- so their size fits a u64
pub sections-small : (f : List ℕ) (ss : List Span) (z : ℕ) → ss ≡ in_order (raw f) → z ≡ size_of_headers f → first_of (section_checks (raw f) (size_of_headers f) (length f)) ≡ None → z ≤ length f → length f ≤ longest_image → z + sum_by size_of ss < 2 ^ 64
sections-small f ss z is end none low short =
    let size = sections-size f ss z is end in
    let fit = sections-fit f none (omega arith) in
    omega arith
