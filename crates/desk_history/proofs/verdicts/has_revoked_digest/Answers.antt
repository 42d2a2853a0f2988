use Rattle.std.proofs.Common.{rules}
use Rattle.desk_history.proofs.verdicts.has_revoked_digest.Goals as goal

pub returns-else-is_revoked : goal.returns-else-is_revoked
returns-else-is_revoked g c = search rules
