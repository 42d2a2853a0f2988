use Rattle.sqlite.specs.Held.{state}
use Rattle.sqlite.specs.Values.{bound}
use Rattle.store_sql.proofs.WriteLemmas.{deletes}
use Rattle.store_sql.proofs.writing.delete.Goals as goal

pub returns-clause-value : goal.returns-clause-value
returns-clause-value g c clean inside =
    deletes c.args.sql.now (bound c.args.params.now) (state g.S.Store c.args.tx.now.conn.now) (state g.S.Store c.execute.new.self.conn.now) c.in_ok-_deleted._deleted (c.in_ok-_deleted.ensures.runs clean inside)
