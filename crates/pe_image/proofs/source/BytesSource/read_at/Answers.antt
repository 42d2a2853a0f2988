use Rattle.std.proofs.Common.{rules}
use Rattle.pe_image.proofs.source.BytesSource.read_at.Goals as goal

pub returns-clause-ok : goal.returns-clause-ok
returns-clause-ok c = search rules
