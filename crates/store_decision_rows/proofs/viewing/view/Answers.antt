use Rattle.desk_history.specs.Tables.{tables}
use Rattle.store_decision_rows.proofs.viewing.view.Goals as goal

pub returns-in-Ok-clause-shown : goal.returns-in-Ok-clause-shown
returns-in-Ok-clause-shown g c clean inside owner cs history sees current =
    let it = (c.in-Ok.ensures.value clean inside).tells (tables owner cs) sees
    (record { calls = c.minutes_are_readable.ensures cs history; proposals = c.stamps_are_above_none.ensures owner cs history }) current in
    (it.0, record { stamp = current.stamp; sizes = it.1; person = current.person })
