-- The spans of the parts of a head, in the bytes that begin with it.
use Rattle.std.specs.Prelude.{ℕ, List}
use Rattle.httparse.specs.Grammar.{RequestHead}
use Rattle.httparse.specs.Spans.{IsRequestAt, IsRequestWithin}
use Rattle.http_requests.specs.heads.Limits.{HasFewFields}
use Rattle.http_requests.specs.declared.heads.head_spans.HeadSpans.{HeadSpans}

-- the bytes begin with a head of few fields, and the spans are those of its parts
pub record IsParsed (bytes : List ℕ) (spans : HeadSpans) : Type 0 where
  pub within : IsRequestWithin bytes spans.fields spans.request
  pub head : (h : RequestHead) × IsRequestAt bytes spans.fields spans.request h × HasFewFields h
