use Rattle.std.proofs.Common.{rules}
use Rattle.store_exports.proofs.forms.RevokedDigestRowForm.put.Goals as goal

pub returns-clause-ok : goal.returns-clause-ok
returns-clause-ok g c = search rules
