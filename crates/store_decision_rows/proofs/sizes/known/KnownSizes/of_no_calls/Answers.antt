use Rattle.store_decision_rows.proofs.SizeLemmas.{known_at_first, right_at_first}
use Rattle.store_decision_rows.proofs.sizes.known.KnownSizes.of_no_calls.Goals as goal

pub returns-clause-known : goal.returns-clause-known
returns-clause-known c = known_at_first

pub returns-clause-right : goal.returns-clause-right
returns-clause-right c = right_at_first
