use Rattle.std.proofs.Common.{◌<◌, ◌++◌, ℕ, List, length}
use Rattle.std.specs.Prelude.{All}
use Rattle.sha2.specs.Hashers.{Holds256}
use Rattle.pe_image.specs.Sources.{OnlyReads}
use Rattle.pe_image.specs.Spans.{EndWithin, bytes_at}
use Rattle.authenticode.proofs.HashingLemmas.{Feeds}
use Rattle.authenticode.proofs.hashing.feed_ranges.Given as goal

abbrev pub invariant-loop-span : goal.invariant-loop-span
invariant-loop-span g l = record {
  feeds : (m : List ℕ) → Holds256 l.initial.hasher m
      → Feeds l.hasher (g.S.Source.content l.initial.source) l.span-iterator (m ++ bytes_at (g.S.Source.content l.initial.source) l.fn.ranges);
  full : All (λ s. s.from < s.to) l.span-iterator;
  within : EndWithin (length (g.S.Source.content l.initial.source)) l.span-iterator;
  reads : OnlyReads g.S.Source.content g.S.Source.failures l.initial.source l.source;
}
