use Rattle.std.proofs.Common.{subst}
use Rattle.store_reads.specs.Reads.{AreRead}
use Rattle.store_reads.proofs.reading.rows_of.Goals as goal

pub returns-clause-value : goal.returns-clause-value
returns-clause-value g c clean inside = record {
  answer = c.in_ok-rows.rows.items;
  selects = c.in_ok-rows.ensures.value clean inside;
  read = subst (λ l. AreRead g.T.FromRow.shown l c.in_ok-values.values.items) c.deref.ensures.value c.in_ok-values.ensures;
}
