use Rattle.pe_image.proofs.HeaderLemmas.{header-is}
use Rattle.pe_image.proofs.header.read_header.Goals as goal

pub returns-clause-ok : goal.returns-clause-ok
returns-clause-ok g c =
    let f = g.S.Source.content c.args.source.now in
    let read = c.in_ok-read_at.ensures.ok in
    header-is f c.read_at.new.out c.args.at _ read (cc)
