use Rattle.std.proofs.Common.{◌≡◌, ◌≤◌, ◌+◌, ◌++◌, take, length}
use Rattle.pe_image.specs.Spans.{nonempty}
use Rattle.pe_image.proofs.listing.push_sections.Given as goal

abbrev pub invariant-loop-section : goal.invariant-loop-section
invariant-loop-section l = record {
  few : l.end ≤ l.fn.count + l.section-index;
  same : length l.spans ≡ length l.initial.spans;
  done : take l.end l.spans ≡ take l.fn.count l.initial.spans ++ nonempty (take l.section-index l.sections);
}
