use Rattle.std.proofs.Common.{◌++◌, ap₂, append_assoc, subst}
use Rattle.std.specs.Io.KnownBytes.{Appends}
use Rattle.base.specs.Output.{AppendsBeginning}
use Rattle.base.proofs.OutputLemmas.{AppendsBeginning-before, OnErr-after, OnErr-fact}
use Rattle.siglist.specs.Writing.{no_time}
use Rattle.siglist.proofs.WritingLemmas.{OnErr-spelt}
use Rattle.siglist.proofs.part_writing.x509_sha256_entry.Goals as goal

pub returns-in_err-put_entry-clause-err : goal.returns-in_err-put_entry-clause-err
returns-in_err-put_entry-clause-err g c =
    let owner = c.args.owner.now in
    let digest = c.args.digest.now in
    let shown = ap₂ ◌++◌ c.as_bytes.ensures.value c.as_bytes-2.ensures.value in
    let front = subst (AppendsBeginning _ _) shown c.in_err-put_entry.ensures.err in
    OnErr-fact _ _ (subst (AppendsBeginning _ _) (append_assoc owner digest no_time) (AppendsBeginning-before _ _ (owner ++ digest) no_time front))

pub returns-clause-err : goal.returns-clause-err
returns-clause-err g c =
    let owner = c.args.owner.now in
    let digest = c.args.digest.now in
    let shown = ap₂ ◌++◌ c.as_bytes.ensures.value c.as_bytes-2.ensures.value in
    let front = subst (Appends _ _) shown c.in_ok-put_entry.ensures.ok in
    OnErr-spelt _ _ _ (append_assoc owner digest no_time) (OnErr-after _ _ _ _ (owner ++ digest) no_time front c.put.ensures.err)
