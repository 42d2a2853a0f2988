use Rattle.std.proofs.Common.{sym, ◌∙◌}
use Rattle.std.proofs.lemmas.Result.{err_from_is_err_and}
use Rattle.authenticode.proofs.CarriedLemmas.{unreadable}
use Rattle.authenticode.proofs.walk.push_entry.Goals as goal

pub returns-in_err-push_body-clause-err : goal.returns-in_err-push_body-clause-err
returns-in_err-push_body-clause-err c =
    let p = err_from_is_err_and c.from_residual.result c.from_residual.ensures.1 in
    rw (p.1, p.2) (
    unreadable c.args.table.now c.in-Some.entry.body.now c.in_err-push_body.field-0.0 c.in-Some.ensures.none (sym c.in-Some.ensures.kind ∙ c.if-entry-eq-SIGNED_DATA.true)
    c.in-Some.ensures.body c.in_err-push_body.ensures.err)
