use Rattle.std.proofs.Common.{◌≡◌, map, take}
use Rattle.httparse.specs.Spans.{header_bytes}
use Rattle.http_requests.specs.heads.Fields.{occurrence, occurrence_of, values_named}
use Rattle.http_requests.proofs.heads.head_parts.value_given.Given as goal

abbrev pub invariant-loop-span : goal.invariant-loop-span
invariant-loop-span l =
    occurrence l.given ≡ occurrence_of (values_named l.name (map (header_bytes l.bytes) (take l.span-index l.spans)))
