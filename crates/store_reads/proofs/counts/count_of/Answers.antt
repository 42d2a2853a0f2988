use Rattle.std.proofs.Common.{rules}
use Rattle.store_reads.proofs.counts.count_of.Goals as goal

pub returns-clause-value : goal.returns-clause-value
returns-clause-value g c = search rules
