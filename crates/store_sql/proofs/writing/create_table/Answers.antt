use Rattle.sqlite.specs.Held.{state}
use Rattle.store_sql.proofs.TableLemmas.{creates}
use Rattle.store_sql.proofs.writing.create_table.Goals as goal

pub returns-clause-value : goal.returns-clause-value
returns-clause-value g c clean inside =
    creates c.args.sql.now (state g.S.Store c.args.tx.now.conn.now) (state g.S.Store c.execute.new.self.conn.now) c.in_ok-execute.field-0 (c.in_ok-execute.ensures.runs clean inside)
