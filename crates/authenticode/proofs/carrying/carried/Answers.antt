use Rattle.std.proofs.Common.{rules}
use Rattle.authenticode.proofs.carrying.carried.Goals as goal

pub returns-then-len-gt-MOST_CERTIFICATES-clause-first : goal.returns-then-len-gt-MOST_CERTIFICATES-clause-first
returns-then-len-gt-MOST_CERTIFICATES-clause-first c = search rules

pub returns-clause-exact : goal.returns-clause-exact
returns-clause-exact c = search rules
