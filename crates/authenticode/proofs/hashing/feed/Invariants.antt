use Rattle.std.proofs.Common.{◌≡◌, ◌≤◌, ◌-◌, ◌++◌, ℕ, List, length, slice_range}
use Rattle.sha2.specs.Hashers.{Holds256}
use Rattle.pe_image.specs.Sources.{OnlyReads}
use Rattle.pe_image.specs.declared.pieces.TheConstants.{PIECE}
use Rattle.authenticode.proofs.hashing.feed.Given as goal

abbrev pub invariant-loop-at : goal.invariant-loop-at
invariant-loop-at g l = record {
  after : l.span.from ≤ l.at;
  before : l.at ≤ l.span.to;
  piece : length l.piece ≡ PIECE;
  reads : OnlyReads g.S.Source.content g.S.Source.failures l.initial.source l.source;
  fed : (m : List ℕ) → Holds256 l.initial.hasher m
      → Holds256 l.hasher (m ++ slice_range (g.S.Source.content l.initial.source) l.span.from l.at);
}

abbrev pub decreases-loop-at : goal.decreases-loop-at
decreases-loop-at g l = l.span.to - l.at
