use Rattle.std.proofs.Common.{◌≡◌, ◌==◌, Some, filter, rules, subst}
use Rattle.sqlite.specs.Held.{state}
use Rattle.desk_history.specs.Tables.{tables}
use Rattle.store_reads.specs.Reads.{listed}
use Rattle.store_impacts.specs.Barring.{Describes}
use Rattle.store_impacts.proofs.FoundLemmas.{describes}
use Rattle.store_impacts.proofs.TellsLemmas.{of_tables}
use Rattle.store_impacts.proofs.barring.row_of.Goals as goal

pub returns-in-Some-clause-value : goal.returns-in-Some-clause-value
returns-in-Some-clause-value g c clean inside =
    let k = c.args.number in
    let row = c.in-Some.row in
    let found = c.in_ok-row.field-0 in
    let some : found ≡ Some row = search (rules, c.in-Some.is) in
    of_tables (state g.S.Store c.args.tx.now.conn.now) (state g.S.Store c.request_numbered.new.tx.conn.now)
    (λ t. filter (λ r. k == r.number) t.requests ≡ listed found) (λ cs. Describes cs k row)
    (λ owner cs history read. describes owner cs k row (subst (λ o. filter (λ r. k == r.number) (tables owner cs).requests ≡ listed o) some read))
    (c.in_ok-row.ensures.value clean inside)
