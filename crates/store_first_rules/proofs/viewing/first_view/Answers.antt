use Rattle.std.proofs.Common.{sym, subst}
use Rattle.desk_history.specs.Tables.{tables}
use Rattle.desk_types.specs.declared.command.Command.TheVariants as command
use Rattle.store_decision_rows.specs.remembered.Current.{IsCurrent}
use Rattle.store_decision_rows.proofs.SizeLemmas.{enough}
use Rattle.store_first_rules.proofs.DecidingLemmas.{shows_first}
use Rattle.store_first_rules.proofs.viewing.first_view.Goals as goal

pub returns-clause-shown : goal.returns-clause-shown
returns-clause-shown g c clean inside p sees =
    let r = c.args.remembered.now in
    let t = tables p.owner p.calls in
    let call = c.args.call.now in
    let current = subst (λ known. IsCurrent known t) (sym c.without_person-known.ensures) (record { stamp = p.right.stamp; sizes = p.right.sizes; person = tt }) in
    let was = c.in-Ok.ensures.shown clean inside p.owner p.calls p.history sees current in
    shows_first c.in-Ok.seen c.sizes-seen.result t call was.0 (c.sizes-seen.ensures t call.command p.right.sizes (enough r.sizes call.command p.known))
    (c.sizes-seen.ensures t (command.Confirm 0) p.right.sizes (enough r.sizes (command.Confirm 0) p.known))
