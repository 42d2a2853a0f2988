use Rattle.std.proofs.Common.{rules}
use Rattle.http_responses.proofs.refused.Refused.of.Goals as goal

pub returns-in-Revoked-clause-value : goal.returns-in-Revoked-clause-value
returns-in-Revoked-clause-value c = search rules

pub returns-in-Revoked-clause-row : goal.returns-in-Revoked-clause-row
returns-in-Revoked-clause-row c = search rules
