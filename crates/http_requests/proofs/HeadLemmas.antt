-- A head that is read byte by byte, and the heads of the whole input.
use Rattle.std.proofs.Common.{◌≡◌, ◌≢◌, ◌∙◌, ℕ, ◌<◌, ◌≤◌, List, [], ◌∷◌, ◌++◌, length, drop, refl, sym, ap, arith, append_assoc, length-append, Option, Some, None, inl, inr, ◌⊎◌}
use Rattle.std.proofs.lemmas.Bool.{cases_lt}
use Rattle.std.proofs.lemmas.List.{append-nil}
use Rattle.std.specs.List.{flat_map}
use Rattle.std.specs.Io.KnownBytes.{Consumes, IsAtEnd}
use Rattle.httparse.specs.Grammar.{LineEnd, crlf, lf, print_end, print_blank, print_version, print_field, RequestHead, print_request, ReadsRequest, HasNoRequest}
use Rattle.httparse.specs.Spans.{RequestOverflows}
use Rattle.httparse.proofs.GrammarLemmas.{ReadsRequest-append}
use Rattle.http_requests.specs.heads.Heads.{FindsOf}
use Rattle.http_requests.specs.heads.Limits.{most_bytes, most_fields}
use Rattle.http_requests.specs.heads.Parsed.{IsParsed}
use Rattle.http_requests.specs.declared.heads.head_spans.HeadSpans.{HeadSpans}
use Rattle.http_requests.specs.declared.heads.begun.HeadRead.TheVariants.{Nothing, Head, NoHead}

-- of two ways to cut one list, the longer front holds the shorter one
pub two_fronts : (a b c d : List ℕ) → a ++ b ≡ c ++ d → length a ≤ length c
    → (q : List ℕ) × (c ≡ a ++ q) × (b ≡ q ++ d)
two_fronts [] b c d e h = (c, refl, e)
two_fronts (x ∷ a) b [] d e h = absurd (omega arith)
two_fronts (x ∷ a) b (y ∷ c) d e h =
    let tails : a ++ b ≡ c ++ d = cc in
    let firsts : x ≡ y = cc in
    let rest = two_fronts a b c d tails (omega arith) in
    (rest.0, cc (rest.1, firsts), rest.2)

-- a line's end ends in LF
pub end_front : (e : LineEnd) → (f : List ℕ) × (print_end e ≡ f ++ 10 ∷ [])
end_front crlf = (13 ∷ [], refl)
end_front lf = ([], refl)

-- a head ends in LF
pub request_ends : (h : RequestHead) → (f : List ℕ) × (print_request h ≡ f ++ 10 ∷ [])
unfolding print_request
request_ends h =
    let last = end_front h.last in
    let start = print_blank h.blank ++ h.method ++ 32 ∷ h.target ++ 32 ∷ print_version h.minor ++ print_end h.line_end in (
      start ++ (flat_map print_field h.fields ++ last.0),
      rw (last.1) (simp append_assoc),
    )

-- a head at the front of a byte more is the whole, or was there before
pub whole_or_before : (t : List ℕ) (x : ℕ) (h : RequestHead) (rest : List ℕ) → ReadsRequest (t ++ x ∷ []) h rest
    → ((rest ≡ []) × (print_request h ≡ t ++ x ∷ [])) ⊎ ((q : List ℕ) × ReadsRequest t h q)
whole_or_before t x h rest reads = elim (cases_lt (length t) (length (print_request h))) [
  | inr le ↦
      let cut = two_fronts (print_request h) rest t (x ∷ []) (sym reads.1) le in
      inr (cut.0, (reads.0, cut.1))
  | inl lt ↦
      let cut = two_fronts t (x ∷ []) (print_request h) rest reads.1 (omega arith) in
      by_part cut.0 cut.1 cut.2 lt
]
  where
    by_part : (q : List ℕ) → print_request h ≡ t ++ q → x ∷ [] ≡ q ++ rest → length t < length (print_request h)
        → ((rest ≡ []) × (print_request h ≡ t ++ x ∷ [])) ⊎ ((q : List ℕ) × ReadsRequest t h q)
    by_part [] e f lt =
        let same = ap length e in
        let nil = append-nil t in
        absurd (omega (arith, length-append t []))
    by_part (y ∷ []) e f lt = inl (cc, cc)
    by_part (y ∷ z ∷ q) e f lt = let bad : [] ≡ z ∷ (q ++ rest) = cc in absurd cc

-- nothing was taken so far
pub consumed_none : (o : Option (List ℕ)) → Consumes o o []
consumed_none None = tt
consumed_none (Some xs) = refl

-- more bytes were taken after the first
pub consumed_more : (o m n : Option (List ℕ)) (xs ys : List ℕ) → Consumes o m xs → Consumes m n ys → Consumes o n (xs ++ ys)
consumed_more None m n xs ys a b = tt
consumed_more (Some os) None n xs ys a b = absurd a
consumed_more (Some os) (Some ms) None xs ys a b = absurd b
consumed_more (Some os) (Some ms) (Some ns) xs ys a b = rw (a, b) (sym (append_assoc xs ys ns))

-- the byte that came last ends a head
pub finds_head : (o n : Option (List ℕ)) (taken t : List ℕ) (x : ℕ) (spans : HeadSpans) → taken ≡ t ++ x ∷ []
    → HasNoRequest t → length (t ++ x ∷ []) ≤ most_bytes
    → Consumes o n (t ++ x ∷ []) → IsParsed (t ++ x ∷ []) spans → FindsOf o n (Head taken)
finds_head None n taken t x spans is none short took parsed = tt
finds_head (Some b) None taken t x spans is none short took parsed = absurd took
finds_head (Some b) (Some left) taken t x spans is none short took parsed =
    let h = parsed.head.0 in
    let reads = parsed.head.1.reads in
    let few = parsed.head.2 in
    let after = drop spans.request.len (t ++ x ∷ []) in
    elim (whole_or_before t x h after reads) [
      | inl whole ↦
          let all = ReadsRequest-append (t ++ x ∷ []) h after left reads in
          let read : ReadsRequest b h left = rw took (rw whole.0 at all) in
          (h, left, record { reads = read; short = rw whole.1 short; few = few }, is ∙ sym whole.1, refl)
      | inr before ↦ absurd (none h before.0 before.1)
    ]

-- a list with an item at its end is not empty
not_nil : (b t n : List ℕ) → b ≡ t ++ n → 0 < length t → b ≢ []
not_nil b t n e some nil = let l = ap length (sym e ∙ nil) in let s = length-append t n in absurd (omega arith)

-- whatever follows, there is no head
pub finds_never : (o n : Option (List ℕ)) (t : List ℕ) → Consumes o n t → 0 < length t → RequestOverflows most_fields t
    → FindsOf o n NoHead
finds_never None n t took some over = tt
finds_never (Some b) None t took some over = absurd took
finds_never (Some b) (Some left) t took some over = (
  not_nil b t left took some,
  λ h rest head. let more = over left h rest (rw took at head.reads) in let few = head.few in absurd (omega arith),
)

-- no head is as short as it has to be
pub finds_long : (o n : Option (List ℕ)) (t : List ℕ) → Consumes o n t → HasNoRequest t → most_bytes ≤ length t
    → FindsOf o n NoHead
finds_long None n t took none long = tt
finds_long (Some b) None t took none long = absurd took
finds_long (Some b) (Some left) t took none long = (
  not_nil b t left took (omega arith),
  λ h rest head.
      let short = head.short in
      let cut = two_fronts (print_request h) rest t left (sym head.reads.1 ∙ took) (omega arith) in
      none h cut.0 (head.reads.0, cut.1),
)

-- the input ended with no head
pub finds_end : (o n m : Option (List ℕ)) (t : List ℕ) → Consumes o n t → IsAtEnd n → HasNoRequest t → 0 < length t
    → FindsOf o m NoHead
finds_end None n m t took end none some = tt
finds_end (Some b) None m t took end none some = absurd took
finds_end (Some b) (Some left) m t took end none some =
    let all : b ≡ t = took ∙ (ap (λ (l : List ℕ). t ++ l) end ∙ append-nil t) in (
      not_nil b t left took some,
      λ h rest head. none h rest (rw all at head.reads),
    )

-- the input had no byte
pub finds_nothing : (o n m : Option (List ℕ)) (t : List ℕ) → Consumes o n t → IsAtEnd n → t ≡ []
    → FindsOf o m Nothing
finds_nothing None n m t took end none = tt
finds_nothing (Some b) None m t took end none = absurd took
finds_nothing (Some b) (Some left) m t took end none = rw (took, none, end) refl

-- no head has no bytes
pub no_request_in_nothing : HasNoRequest []
no_request_in_nothing h rest reads =
    let end = request_ends h in
    let a = ap length (reads.1 ∙ ap (λ (l : List ℕ). l ++ rest) end.1) in
    let b = length-append (end.0 ++ 10 ∷ []) rest in
    let d = length-append end.0 (10 ∷ []) in
    absurd (omega arith)
