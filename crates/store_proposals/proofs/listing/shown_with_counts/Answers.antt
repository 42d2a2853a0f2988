use Rattle.std.proofs.Common.{◌≡◌, ◌==◌, Some, filter, rules, refl, subst}
use Rattle.sqlite.specs.Held.{state}
use Rattle.store_reads.specs.Reads.{listed}
use Rattle.store_reads.proofs.TellsLemmas.{tells_so}
use Rattle.store_proposals.specs.Listing.{IsCounted}
use Rattle.store_proposals.specs.Reading.{IsRead}
use Rattle.store_proposals.proofs.listing.shown_with_counts.Goals as goal

pub returns-clause-value : goal.returns-clause-value
returns-clause-value g c clean inside =
    let first = state g.S.Store c.args.tx.now.conn.now in
    let new = state g.S.Store c.proposal_of.new.tx.conn.now in
    let k = c.args.number in
    let row = c.in-Some.row in
    let found = c.in_ok-row.field-0 in
    let some : found ≡ Some row = search (rules, c.in-Some.is) in
    tells_so first new (IsRead k found) (IsCounted k c.shown_row.result)
    (λ t read stamped. (row, subst (λ o. filter (λ q. k == q.number) t.proposals ≡ listed o) some (read stamped), c.shown_row.ensures))
    (c.in_ok-row.ensures.value clean inside)
