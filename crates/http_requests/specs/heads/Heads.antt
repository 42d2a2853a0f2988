-- The head of a request at the front of an input (RFC 9112, section 2.1).
use Rattle.std.specs.Prelude.{◌≡◌, ◌≢◌, ℕ, ◌≤◌, ◌==◌, ◌||◌, Bool, false, nat_eq, if◌then◌else◌, List, [], ◌∷◌, length, Option, Some, None, ⊤}
use Rattle.std.specs.List.{ends_with}
use Rattle.httparse.specs.Grammar.{RequestHead, print_request, ReadsRequest, HasNoRequest}
use Rattle.httparse.specs.Spans.{RequestOverflows}
use Rattle.std.specs.Io.KnownBytes.{Consumes, IsAtEnd}
use Rattle.http_requests.specs.heads.Limits.{HasFewFields, most_bytes, most_fields}
use Rattle.http_requests.specs.heads.Parsed.{IsParsed}
use Rattle.http_requests.specs.declared.heads.head_reading.Look.{Look}
use Rattle.http_requests.specs.declared.heads.head_reading.Look.TheVariants.{Whole, Open, Never}
use Rattle.http_requests.specs.declared.heads.begun.HeadRead.{HeadRead}
use Rattle.http_requests.specs.declared.heads.begun.HeadRead.TheVariants.{Nothing, Head, NoHead}

-- b begins with the head h of httparse's default grammar, within the limits, and continues with
-- rest
pub record HasHead (b : List ℕ) (h : RequestHead) (rest : List ℕ) : Type 0 where
  pub reads : ReadsRequest b h rest
  pub short : length (print_request h) ≤ most_bytes
  pub few : HasFewFields h

-- b begins with no such head
abbrev pub HasNoHead : List ℕ → Type 0
HasNoHead b = (h : RequestHead) (rest : List ℕ) → ¬ (HasHead b h rest)

-- the front of the input b: nothing at all; a head, after which `left` remains to be read; or no
-- head
abbrev pub Finds : List ℕ → Option (List ℕ) → HeadRead → Type 0
Finds b left Nothing = b ≡ []
Finds b left (Head taken) =
    (h : RequestHead) × (rest : List ℕ)
    × HasHead b h rest × (taken ≡ print_request h) × (left ≡ Some rest)
Finds b left NoHead = (b ≢ []) × HasNoHead b

-- the same, where the reader's bytes are known
abbrev pub FindsOf : Option (List ℕ) → Option (List ℕ) → HeadRead → Type 0
FindsOf None left begun = ⊤
FindsOf (Some b) left begun = Finds b left begun

-- a byte was taken from the known bytes, or they were at their end
abbrev pub TakesByte : Option (List ℕ) → Option (List ℕ) → Option ℕ → Type 0
TakesByte old new None = IsAtEnd old
TakesByte old new (Some x) = Consumes old new (x ∷ [])

-- the bytes begin with a head of few fields whose spans are these, with no head, or with no head of
-- few fields whatever follows
abbrev pub Looks : List ℕ → Look → Type 0
Looks bytes (Whole spans) = IsParsed bytes spans
Looks bytes Open = HasNoRequest bytes
Looks bytes Never = RequestOverflows most_fields bytes

-- CR or LF
abbrev pub is_line_break : ℕ → Bool
is_line_break b = (b == 13) || (b == 10)

-- the bytes end with an empty line: with LF LF, or with LF CR LF (RFC 9112, section 2.2)
abbrev pub ends_empty_line : List ℕ → Bool
ends_empty_line bytes = ends_with nat_eq bytes (10 ∷ 10 ∷ []) || ends_with nat_eq bytes (10 ∷ 13 ∷ 10 ∷ [])

-- whether the bytes are checked for a head: not while they are only empty lines, then at the end of
-- the first line that isn't empty, and then at each empty line
abbrev pub may_end_head : (blank begun : Bool) → List ℕ → Bool
may_end_head blank begun bytes =
    if blank then false else (if begun then ends_empty_line bytes else ends_with nat_eq bytes (10 ∷ []))

-- no head ends exactly at the end of the bytes
abbrev pub EndsNoHead : List ℕ → Type 0
EndsNoHead bytes = (h : RequestHead) → print_request h ≢ bytes
