use Rattle.sqlite.specs.Held.{state}
use Rattle.store_reads.proofs.ProposalLemmas.{tells_heads}
use Rattle.store_reads.proofs.proposals.heads_all.Goals as goal

pub returns-clause-value : goal.returns-clause-value
returns-clause-value g c clean inside =
    tells_heads (state g.S.Store c.args.tx.now.conn.now) (state g.S.Store c.rows_of.new.tx.conn.now) c.in_ok-heads.heads.items (c.in_ok-heads.ensures.value clean inside)
