use Rattle.std.proofs.Common.{◌≡◌, ◌-◌, ◌≤◌, length, slice_range}
use Rattle.sha2.specs.Hashers.{Holds256}
use Rattle.pe_image.specs.Sources.{OnlyReads}
use Rattle.pe_image.specs.Passes.{first_pass_of}
use Rattle.pe_image.specs.declared.pieces.TheConstants.{PIECE}
use Rattle.authenticode.specs.Hashing.{bytes_between}
use Rattle.authenticode.proofs.summing.hash_pieces.Given as goal

abbrev pub invariant-loop-at : goal.invariant-loop-at
invariant-loop-at g l = record {
  before : l.at ≤ l.end;
  piece : length l.piece ≡ PIECE;
  file : Holds256 l.file (slice_range (g.S.Source.content l.initial.source) 0 l.at);
  ranges : Holds256 l.ranges (bytes_between (g.S.Source.content l.initial.source) 0 l.at (first_pass_of l.layout));
  reads : OnlyReads g.S.Source.content g.S.Source.failures l.initial.source l.source;
}

abbrev pub decreases-loop-at : goal.decreases-loop-at
decreases-loop-at g l = l.end - l.at
