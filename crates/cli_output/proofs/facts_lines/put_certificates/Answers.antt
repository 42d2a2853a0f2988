use Rattle.std.proofs.Common.{arith}
use Rattle.base.proofs.OutputLemmas.{OnErr-fact}
use Rattle.cli_output.specs.Listings.{certificate_line}
use Rattle.cli_output.proofs.EachLemmas.{Lined-next, Lined-stops, drop_next}
use Rattle.cli_output.proofs.facts_lines.put_certificates.Goals as goal

pub loop-digest-preserved : goal.loop-digest-preserved
loop-digest-preserved g c =
    Lined-next certificate_line _ _ _ _ _ _ _ c.loop-digest.invariant (drop_next c.args.digests.now c.loop-digest.digest-index c.digest-item.result (omega arith) c.digest-item.is) c.in_ok-put_certificate.ensures.ok

pub returns-in_err-put_certificate-clause-err : goal.returns-in_err-put_certificate-clause-err
returns-in_err-put_certificate-clause-err g c =
    OnErr-fact _ _ (Lined-stops certificate_line _ _ _ _ _ _ _ c.loop-digest.invariant (drop_next c.args.digests.now c.loop-digest.digest-index c.digest-item.result (omega arith) c.digest-item.is) c.in_err-put_certificate.ensures.err)
