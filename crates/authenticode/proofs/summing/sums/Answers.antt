use Rattle.std.proofs.Common.{rules}
use Rattle.authenticode.proofs.summing.sums.Goals as goal

pub returns-clause-digest : goal.returns-clause-digest
returns-clause-digest g c = search rules

pub returns-clause-signing : goal.returns-clause-signing
returns-clause-signing g c = search rules
