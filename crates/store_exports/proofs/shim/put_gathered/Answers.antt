use Rattle.std.proofs.Common.{subst, ◌∙◌}
use Rattle.std.proofs.KnownBytes.{Appends-nil}
use Rattle.siglist.specs.SignatureLists.{spelling}
use Rattle.siglist.specs.Writing.{x509_sha256_row}
use Rattle.base.specs.Output.{AppendsBeginning}
use Rattle.base.proofs.OutputLemmas.{AppendsBeginning-after, AppendsBeginning-before, AppendsBeginning-none, OnErr-fact}
use Rattle.store_exports.specs.Gathering.{gathered_text}
use Rattle.store_exports.proofs.shim.put_gathered.Goals as goal

pub returns-in_err-others-clause-err : goal.returns-in_err-others-clause-err
returns-in_err-others-clause-err g c = OnErr-fact _ _ (AppendsBeginning-none _ _ _ (Appends-nil _))

pub returns-then-len-clause-err : goal.returns-then-len-clause-err
returns-then-len-clause-err g c =
    let x = g.W.Write.contents c.args.writer.now in
    AppendsBeginning-none x x (gathered_text c.args.owner.now c.args.gathered.now) (Appends-nil x)

pub returns-in_err-put_bodies-clause-err : goal.returns-in_err-put_bodies-clause-err
returns-in_err-put_bodies-clause-err g c = OnErr-fact _ _ (AppendsBeginning-before _ _ _ _ c.in_err-put_bodies.ensures.err)

pub returns-in_err-write_x509_sha256-clause-err : goal.returns-in_err-write_x509_sha256-clause-err
returns-in_err-write_x509_sha256-clause-err g c =
    let mid = g.W.Write.contents c.put_bodies.new.writer in
    let end = g.W.Write.contents c.write_x509_sha256.new.writer in
    let last = subst (λ l. AppendsBeginning mid end (spelling (x509_sha256_row c.args.owner.now l))) (c.deref.ensures.value ∙ c.in_ok-others.ensures) c.in_err-write_x509_sha256.ensures.err in
    OnErr-fact _ _ (AppendsBeginning-after _ _ _ _ _ c.in_ok-put_bodies.ensures.ok last)
