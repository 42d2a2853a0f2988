use Rattle.std.proofs.Common.{◌≡◌, ◌≤◌, length, ◌-◌}
use Rattle.std.specs.Io.KnownBytes.{Consumes}
use Rattle.std.specs.List.{list_all}
use Rattle.httparse.specs.Grammar.{HasNoRequest}
use Rattle.http_requests.specs.heads.Heads.{is_line_break}
use Rattle.http_requests.specs.heads.Limits.{most_bytes}
use Rattle.http_requests.proofs.heads.head_reading.read_head.Given as goal

abbrev pub invariant-loop-reader : goal.invariant-loop-reader
invariant-loop-reader g l = record {
  short : length l.taken.items ≤ most_bytes;
  consumed : Consumes (g.R.Read.remaining l.fn.reader) (g.R.Read.remaining l.reader) l.taken.items;
  none : HasNoRequest l.taken.items;
  blank : l.blank ≡ list_all is_line_break l.taken.items;
}

abbrev pub decreases-loop-reader : goal.decreases-loop-reader
decreases-loop-reader g l = most_bytes - length l.taken.items
