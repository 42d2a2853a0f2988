use Rattle.std.proofs.Common.{ap, flat_map, subst, ◌∙◌}
use Rattle.std.specs.Prelude.{OnErr, OnOk}
use Rattle.std.specs.Io.KnownBytes.{Appends}
use Rattle.base.specs.Output.{AppendsBeginning}
use Rattle.siglist.specs.SignatureLists.{spelling}
use Rattle.siglist.specs.Writing.{x509_row}
use Rattle.desk_types.specs.Certificates.{WholeCertificate}
use Rattle.store_exports.specs.Gathering.{bodies_text}
use Rattle.store_exports.proofs.WrittenLemmas.{mapped_text}
use Rattle.store_exports.proofs.gathered.Gathered.put.Goals as goal

pub returns-clause-ok : goal.returns-clause-ok
returns-clause-ok g c =
    let own = c.args.owner.now in
    let whole =
    ap (flat_map (λ (x : WholeCertificate). spelling (x509_row own x.body))) c.deref.ensures.value ∙ mapped_text own c.self.inside.given.items
    ∙ ap (bodies_text own) c.self.view_is in
    subst (λ l. OnOk c.put_each.result (Appends (g.W.Write.contents c.args.writer.now) (g.W.Write.contents c.put_each.new.writer) l)) whole c.put_each.ensures.ok

pub returns-clause-err : goal.returns-clause-err
returns-clause-err g c =
    let own = c.args.owner.now in
    let whole =
    ap (flat_map (λ (x : WholeCertificate). spelling (x509_row own x.body))) c.deref.ensures.value ∙ mapped_text own c.self.inside.given.items
    ∙ ap (bodies_text own) c.self.view_is in
    subst (λ l. OnErr c.put_each.result (AppendsBeginning (g.W.Write.contents c.args.writer.now) (g.W.Write.contents c.put_each.new.writer) l)) whole c.put_each.ensures.err
