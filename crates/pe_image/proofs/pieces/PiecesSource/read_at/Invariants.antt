use Rattle.std.proofs.Common.{◌≡◌, ◌+◌, ◌-◌, ◌≤◌, length, slice_range, take}
use Rattle.pe_image.proofs.pieces.PiecesSource.read_at.Given as goal

abbrev pub invariant-loop-done : goal.invariant-loop-done
invariant-loop-done l = record {
  bound : l.done ≤ length l.out;
  width : length l.out ≡ length l.initial.out;
  read : take l.done l.out ≡ slice_range l.self l.at (l.at + l.done);
}

abbrev pub decreases-loop-done : goal.decreases-loop-done
decreases-loop-done l = length l.out - l.done
