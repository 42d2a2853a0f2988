-- Bytes that no head ends with.
use Rattle.std.proofs.Common.{inl, inr, ◌≡◌, ◌∙◌, ℕ, ◌-◌, List, [], ◌∷◌, ◌++◌, length, drop, refl, sym, ap, subst, arith, append_assoc, length-append, Bool, true, false, ◌&&◌, ◌||◌, nat_eq}
use Rattle.std.proofs.lemmas.List.{append-nil}
use Rattle.std.proofs.lemmas.List.Folds.{list_all-append}
use Rattle.std.proofs.Math.Seq.{drop-append_seam}
use Rattle.std.specs.Prelude.{bytes_eq}
use Rattle.std.specs.List.{ends_with, flat_map, list_all}
use Rattle.httparse.specs.Grammar.{Field, LineEnd, crlf, lf, print_blank, print_end, print_field, print_section, print_version, RequestHead, print_request, HasNoRequest}
use Rattle.http_requests.specs.heads.Heads.{EndsNoHead, ends_empty_line, is_line_break, may_end_head}
use Rattle.http_requests.proofs.HeadLemmas.{end_front, request_ends, whole_or_before}

-- ---- the end of a head

and_false : (b : Bool) → (b && false) ≡ false
and_false true = refl
and_false false = refl

or_left : (a b : Bool) → a ≡ true → (a || b) ≡ true
or_left true b e = refl
or_left false b e = cc

or_right : (a b : Bool) → b ≡ true → (a || b) ≡ true
or_right true b e = refl
or_right false b e = e

-- a list ends with what was put at its end
ends_so : (f n : List ℕ) → bytes_eq n n ≡ true → ends_with nat_eq (f ++ n) n ≡ true
ends_so f n e =
    let size = length-append f n in
    let place : length (f ++ n) - length n ≡ length f = omega arith in
    let end : drop (length (f ++ n) - length n) (f ++ n) ≡ n = ap (λ (k : ℕ). drop k (f ++ n)) place ∙ drop-append_seam f n in
    ap (λ (l : List ℕ). bytes_eq n l) end ∙ e

-- a field ends its line
field_ends : (s : List ℕ) (x : Field) → (f : List ℕ) × (s ++ print_field x ≡ f ++ 10 ∷ [])
field_ends s x = let end = end_front x.end in (s ++ (x.name ++ 58 ∷ x.raw) ++ end.0, rw end.1 (simp append_assoc))

-- so do fields, after a line that has ended
fields_end : (s : List ℕ) (fields : List Field) → (f : List ℕ) × (s ≡ f ++ 10 ∷ [])
    → (f : List ℕ) × (s ++ flat_map print_field fields ≡ f ++ 10 ∷ [])
fields_end s [] ended = (ended.0, append-nil s ∙ ended.1)
fields_end s (x ∷ xs) ended =
    let rest = fields_end (s ++ print_field x) xs (field_ends s x) in
    (rest.0, sym (append_assoc s (print_field x) (flat_map print_field xs)) ∙ rest.1)

-- a head ends with a line's end and an empty line
request_ends_empty : (h : RequestHead) → (f : List ℕ) × (print_request h ≡ (f ++ 10 ∷ []) ++ print_end h.last)
unfolding print_request
request_ends_empty h =
    let start = print_blank h.blank ++ h.method ++ 32 ∷ h.target ++ 32 ∷ print_version h.minor in
    let end = end_front h.line_end in
    let line : (f : List ℕ) × (start ++ print_end h.line_end ≡ f ++ 10 ∷ []) = (start ++ end.0, rw end.1 (sym (append_assoc start end.0 (10 ∷ [])))) in
    let all = fields_end (start ++ print_end h.line_end) h.fields line in (
      all.0,
      sym (append_assoc (start ++ print_end h.line_end) (flat_map print_field h.fields) (print_end h.last))
          ∙ ap (λ (l : List ℕ). l ++ print_end h.last) all.1,
    )

spaced : (p t v e s : List ℕ) → (((p ++ 32 ∷ t) ++ 32 ∷ v) ++ e) ++ s ≡ p ++ 32 ∷ (((t ++ 32 ∷ v) ++ e) ++ s)
spaced p t v e s = simp append_assoc

-- a head has a space
request_has_space : (h : RequestHead) → (a : List ℕ) × (b : List ℕ) × (print_request h ≡ a ++ 32 ∷ b)
unfolding print_request
request_has_space h = (
  print_blank h.blank ++ h.method,
  ((h.target ++ 32 ∷ print_version h.minor) ++ print_end h.line_end) ++ print_section h.fields h.last,
  spaced (print_blank h.blank ++ h.method) h.target (print_version h.minor) (print_end h.line_end) (print_section h.fields h.last),
)

-- ---- bytes that end no head

-- a line that goes on
ends_no_line : (bytes : List ℕ) → ends_with nat_eq bytes (10 ∷ []) ≡ false → EndsNoHead bytes
ends_no_line bytes partial h same =
    let end = request_ends h in
    let ended : ends_with nat_eq bytes (10 ∷ []) ≡ true = subst (λ (l : List ℕ). ends_with nat_eq l (10 ∷ []) ≡ true) (sym end.1 ∙ same) (ends_so end.0 (10 ∷ []) refl) in
    cc

empty_line_ends : (f : List ℕ) (e : LineEnd) → ends_empty_line ((f ++ 10 ∷ []) ++ print_end e) ≡ true
empty_line_ends f lf =
    let ended : ends_empty_line (f ++ 10 ∷ 10 ∷ []) ≡ true =
    or_left (ends_with nat_eq (f ++ 10 ∷ 10 ∷ []) (10 ∷ 10 ∷ [])) (ends_with nat_eq (f ++ 10 ∷ 10 ∷ []) (10 ∷ 13 ∷ 10 ∷ [])) (ends_so f (10 ∷ 10 ∷ []) refl) in
    subst (λ (l : List ℕ). ends_empty_line l ≡ true) (sym (append_assoc f (10 ∷ []) (10 ∷ []))) ended
empty_line_ends f crlf =
    let ended : ends_empty_line (f ++ 10 ∷ 13 ∷ 10 ∷ []) ≡ true =
    or_right (ends_with nat_eq (f ++ 10 ∷ 13 ∷ 10 ∷ []) (10 ∷ 10 ∷ [])) (ends_with nat_eq (f ++ 10 ∷ 13 ∷ 10 ∷ []) (10 ∷ 13 ∷ 10 ∷ []))
    (ends_so f (10 ∷ 13 ∷ 10 ∷ []) refl) in
    subst (λ (l : List ℕ). ends_empty_line l ≡ true) (sym (append_assoc f (10 ∷ []) (13 ∷ 10 ∷ []))) ended

-- a line with anything in it
ends_other_line : (bytes : List ℕ) → ends_empty_line bytes ≡ false → EndsNoHead bytes
ends_other_line bytes other h same =
    let end = request_ends_empty h in
    let ended : ends_empty_line bytes ≡ true = subst (λ (l : List ℕ). ends_empty_line l ≡ true) (sym end.1 ∙ same) (empty_line_ends end.0 h.last) in
    cc

has_other : (a b : List ℕ) → list_all is_line_break (a ++ 32 ∷ b) ≡ false
has_other [] b = refl
has_other (x ∷ a) b = ap (λ (y : Bool). is_line_break x && y) (has_other a b) ∙ and_false (is_line_break x)

-- empty lines
ends_blank : (bytes : List ℕ) → list_all is_line_break bytes ≡ true → EndsNoHead bytes
ends_blank bytes blank h same =
    let space = request_has_space h in
    let other : list_all is_line_break bytes ≡ false = subst (λ (l : List ℕ). list_all is_line_break l ≡ false) (sym space.2 ∙ same) (has_other space.0 space.1) in
    cc

pub may_not_end : (blank begun : Bool) (bytes : List ℕ) → blank ≡ list_all is_line_break bytes → may_end_head blank begun bytes ≡ false
    → EndsNoHead bytes
may_not_end true begun bytes all partial = ends_blank bytes (sym all)
may_not_end false true bytes all partial = ends_other_line bytes partial
may_not_end false false bytes all partial = ends_no_line bytes partial

and_true : (b : Bool) → (b && true) ≡ b
and_true true = refl
and_true false = refl

-- empty lines with one byte more
pub blank_more : (blank : Bool) (t : List ℕ) (x : ℕ) → blank ≡ list_all is_line_break t
    → (blank && is_line_break x) ≡ list_all is_line_break (t ++ x ∷ [])
blank_more blank t x all =
    let more : list_all is_line_break (t ++ x ∷ []) ≡ (list_all is_line_break t && (is_line_break x && true)) = list_all-append is_line_break t (x ∷ []) in
    ap (λ (b : Bool). b && is_line_break x) all
    ∙ (ap (λ (b : Bool). list_all is_line_break t && b) (sym (and_true (is_line_break x))) ∙ sym more)

-- with a byte that ends no head there is none yet
pub no_request_at : (t : List ℕ) (x : ℕ) → HasNoRequest t → EndsNoHead (t ++ x ∷ []) → HasNoRequest (t ++ x ∷ [])
no_request_at t x none other h rest reads = elim (whole_or_before t x h rest reads) [
  | inl whole ↦ other h whole.1
  | inr before ↦ none h before.0 before.1
]
