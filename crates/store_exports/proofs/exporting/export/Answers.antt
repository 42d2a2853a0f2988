use Rattle.std.proofs.Common.{rules}
use Rattle.store_exports.proofs.exporting.export.Goals as goal

pub returns-in-Ok-clause-same : goal.returns-in-Ok-clause-same
returns-in-Ok-clause-same g c = search rules

pub returns-in-Ok-clause-spares : goal.returns-in-Ok-clause-spares
returns-in-Ok-clause-spares g c = search rules
