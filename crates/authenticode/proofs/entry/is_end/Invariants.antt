use Rattle.std.proofs.Common.{◌≡◌, drop}
use Rattle.authenticode.specs.Table.{is_end}
use Rattle.authenticode.proofs.entry.is_end.Given as goal

abbrev pub invariant-loop-byte : goal.invariant-loop-byte
invariant-loop-byte l = is_end (drop l.byte-index l.bytes) ≡ is_end l.bytes
