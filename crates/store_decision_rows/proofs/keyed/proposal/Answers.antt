use Rattle.std.proofs.Common.{rules}
use Rattle.store_decision_rows.proofs.keyed.proposal.Goals as goal

pub returns-in_default-clause-value : goal.returns-in_default-clause-value
returns-in_default-clause-value g c = search rules

pub returns-clause-value : goal.returns-clause-value
returns-clause-value g c = search rules

pub returns-clause-only : goal.returns-clause-only
returns-clause-only g c = search rules
