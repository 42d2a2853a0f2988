use Rattle.std.proofs.Common.{◌≡◌, ◌≤◌, take}
use Rattle.pe_image.specs.Headers.{headers_from}
use Rattle.pe_image.proofs.header.read_headers.Given as goal

abbrev pub invariant-loop-i : goal.invariant-loop-i
invariant-loop-i g l = record {
  same : g.S.Source.content l.source ≡ g.S.Source.content l.initial.source;
  kept : g.S.Source.failures l.initial.source ≤ g.S.Source.failures l.source;
  read : take l.i l.table ≡ headers_from (g.S.Source.content l.initial.source) l.begin l.i;
}
