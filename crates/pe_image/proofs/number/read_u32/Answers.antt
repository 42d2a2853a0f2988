use Rattle.pe_image.proofs.HeaderLemmas.{u32-read}
use Rattle.pe_image.proofs.number.read_u32.Goals as goal

pub returns-clause-ok : goal.returns-clause-ok
returns-clause-ok g c = u32-read (g.S.Source.content c.args.source.now) c.in_ok-bytes.bytes c.args.at _ c.in_ok-bytes.ensures.ok c.u32_at.ensures
