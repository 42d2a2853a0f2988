use Rattle.std.proofs.Common.{◌≡◌, ◌-◌, ◌*◌, ◌≤◌, length}
use Rattle.std.specs.Prelude.{All}
use Rattle.std.specs.List.{flat_map}
use Rattle.std.specs.Io.KnownBytes.{Consumes}
use Rattle.pe_image.specs.declared.pieces.TheConstants.{PIECE}
use Rattle.pe_image.proofs.pieces.Pieces.take.Given as goal

abbrev pub invariant-loop-full : goal.invariant-loop-full
invariant-loop-full g l = record {
  pieces : All (λ piece. length piece.items ≡ PIECE) l.full.items;
  counted : l.size ≡ PIECE * length l.full.items;
  bound : l.size ≤ l.most;
  taken : Consumes (g.R.Read.remaining l.initial.reader) (g.R.Read.remaining l.reader) (flat_map (λ piece. piece.items) l.full.items);
  steady : l.watch ≡ l.initial.watch;
}

abbrev pub decreases-loop-full : goal.decreases-loop-full
decreases-loop-full g l = l.most - l.size
