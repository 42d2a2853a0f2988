use Rattle.sqlite.specs.Held.{state}
use Rattle.store_reads.proofs.ProposalLemmas.{tells_items}
use Rattle.store_reads.proofs.proposals.items_of.Goals as goal

pub returns-clause-value : goal.returns-clause-value
returns-clause-value g c clean inside =
    tells_items c.args.proposal (state g.S.Store c.args.tx.now.conn.now) (state g.S.Store c.rows_of.new.tx.conn.now) c.in_ok-rows.rows.items
    (rw (c.params-to_sql.ensures, c.number_of-key.ensures) at (c.in_ok-rows.ensures.value clean inside))
