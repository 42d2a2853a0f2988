use Rattle.pe_image.proofs.HeaderLemmas.{u16-read}
use Rattle.pe_image.proofs.number.read_u16.Goals as goal

pub returns-clause-ok : goal.returns-clause-ok
returns-clause-ok g c = u16-read (g.S.Source.content c.args.source.now) c.in_ok-bytes.bytes c.args.at _ c.in_ok-bytes.ensures.ok c.u16_at.ensures
