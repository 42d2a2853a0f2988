use Rattle.sqlite.specs.Held.{state}
use Rattle.store_reads.proofs.CallLemmas.{tells_numbered}
use Rattle.store_reads.proofs.calls.call_numbered.Goals as goal

pub returns-clause-value : goal.returns-clause-value
returns-clause-value g c clean inside =
    tells_numbered c.args.number (state g.S.Store c.args.tx.now.conn.now) (state g.S.Store c.row_of.new.tx.conn.now) c.in_ok-texts.texts
    (rw (c.params-to_sql.ensures, c.in_ok-key.ensures) at (c.in_ok-texts.ensures.value clean inside))
