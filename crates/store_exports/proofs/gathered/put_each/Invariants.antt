use Rattle.std.proofs.Common.{flat_map, take}
use Rattle.std.specs.Io.KnownBytes.{Appends}
use Rattle.siglist.specs.SignatureLists.{spelling}
use Rattle.siglist.specs.Writing.{x509_row}
use Rattle.desk_types.specs.Certificates.{WholeCertificate}
use Rattle.store_exports.proofs.gathered.put_each.Given as goal

abbrev pub invariant-loop-one : goal.invariant-loop-one
invariant-loop-one g l = Appends (g.W.Write.contents l.fn.writer) (g.W.Write.contents l.writer)
    (flat_map (λ (c : WholeCertificate). spelling (x509_row l.owner c.body)) (take l.one-index l.given))
