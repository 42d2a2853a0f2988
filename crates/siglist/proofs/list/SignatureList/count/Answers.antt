use Rattle.std.proofs.Common.{length, ap, sym, ◌∙◌}
use Rattle.siglist.specs.SignatureLists.{Placed}
use Rattle.siglist.proofs.EntryLemmas.{entries_count}
use Rattle.siglist.proofs.list.SignatureList.count.Goals as goal

pub returns : goal.returns
returns c =
    let l = c.self.inside in
    sym (ap (λ (p : Placed). length p.list.entries) (sym c.self.view_is) ∙ entries_count l.count l.entry_size l.entries.now)
