use Rattle.std.proofs.Common.{sym, ◌∙◌}
use Rattle.std.proofs.lemmas.Result.{err_from_is_err_and}
use Rattle.authenticode.specs.Certificates.{GivesCertificate}
use Rattle.authenticode.proofs.StepLemmas.{Collects-more}
use Rattle.authenticode.proofs.CarriedLemmas.{IsDerOnlyWhere-map, no_row, some_left}
use Rattle.authenticode.proofs.row.push_row.Goals as goal

pub returns-in_err-left-clause-err : goal.returns-in_err-left-clause-err
returns-in_err-left-clause-err c =
    let p = err_from_is_err_and c.from_residual.result c.from_residual.ensures.1 in
    let some = some_left c.loop-left.left.now (sym c.loop-left-test.true ∙ c.is_empty.ensures) in
    rw (p.1, p.2) (IsDerOnlyWhere-map _ _ c.in_err-left.field-0.0 (λ stop tbs. no_row c.args.row.now c.loop-left.left.now _ _ tbs c.loop-left.invariant some stop) c.in_err-left.ensures.err)

pub loop-left-preserved : goal.loop-left-preserved
loop-left-preserved c = Collects-more GivesCertificate _ c.loop-left.left.now _ _ _ _ c.loop-left.invariant c.in_ok-left.ensures.ok
