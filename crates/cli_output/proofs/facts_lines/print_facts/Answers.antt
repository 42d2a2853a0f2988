use Rattle.std.proofs.KnownBytes.{Appends-trans}
use Rattle.base.proofs.OutputLemmas.{AppendsBeginning-after, AppendsBeginning-before, OnErr-after, OnErr-fact}
use Rattle.cli_output.proofs.facts_lines.print_facts.Goals as goal

pub returns-in_err-put_image-clause-err : goal.returns-in_err-put_image-clause-err
returns-in_err-put_image-clause-err g c =
    OnErr-fact _ _ (AppendsBeginning-before _ _ _ _ (AppendsBeginning-before _ _ _ _ c.in_err-put_image.ensures.err))

pub returns-in_err-put_certificates-clause-err : goal.returns-in_err-put_certificates-clause-err
returns-in_err-put_certificates-clause-err g c =
    let stopped = rw c.as_slice.ensures.value at c.in_err-put_certificates.ensures.err in
    OnErr-fact _ _ (AppendsBeginning-before _ _ _ _ (AppendsBeginning-after _ _ _ _ _ c.in_ok-put_image.ensures.ok stopped))

pub returns-clause-err : goal.returns-clause-err
returns-clause-err g c =
    let certificates = rw c.as_slice.ensures.value at c.in_ok-put_certificates.ensures.ok in
    let before = Appends-trans _ _ _ _ _ c.in_ok-put_image.ensures.ok certificates in
    OnErr-after c.put_components.result _ _ _ _ _ before (rw c.as_slice-2.ensures.value at c.put_components.ensures.err)
