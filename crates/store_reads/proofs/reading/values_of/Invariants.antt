use Rattle.std.proofs.Common.{take}
use Rattle.std.specs.List.{AllZip}
use Rattle.store_reads.proofs.ValueLemmas.{IsValue}
use Rattle.store_reads.proofs.reading.values_of.Given as goal

abbrev pub invariant-loop-row : goal.invariant-loop-row
invariant-loop-row g l = AllZip (IsValue g.T.FromRow.shown) (take l.row-index l.rows) l.values.items
