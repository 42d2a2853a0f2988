use Rattle.sqlite.specs.Held.{state}
use Rattle.store_reads.proofs.ProposalLemmas.{tells_head}
use Rattle.store_reads.proofs.proposals.head_numbered.Goals as goal

pub returns-clause-value : goal.returns-clause-value
returns-clause-value g c clean inside =
    tells_head c.args.proposal (state g.S.Store c.args.tx.now.conn.now) (state g.S.Store c.row_of.new.tx.conn.now) c.in_ok-head.head
    (rw (c.params-to_sql.ensures, c.number_of-key.ensures) at (c.in_ok-head.ensures.value clean inside))
