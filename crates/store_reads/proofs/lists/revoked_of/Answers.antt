use Rattle.sqlite.specs.Held.{state}
use Rattle.store_reads.proofs.RevokedLemmas.{tells_revoked}
use Rattle.store_reads.proofs.lists.revoked_of.Goals as goal

pub returns-clause-value : goal.returns-clause-value
returns-clause-value g c clean inside =
    tells_revoked c.args.kind c.args.digest.now (state g.S.Store c.args.tx.now.conn.now) (state g.S.Store c.row_of.new.tx.conn.now) c.in_ok-row.row
    (rw (c.revoked_text-sql.ensures, c.params-to_sql.ensures, c.as_bytes.ensures.value) at (c.in_ok-row.ensures.value clean inside))
