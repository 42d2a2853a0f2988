use Rattle.std.proofs.Common.{refl}
use Rattle.sqlite.specs.Held.{state}
use Rattle.store_schema.specs.Columns.{values_of}
use Rattle.store_schema.specs.Tables.{calls}
use Rattle.store_schema.specs.declared.inserting.TheConstants.{INSERT_CALL}
use Rattle.store_schema.proofs.InsertFacts.{insert_call}
use Rattle.desk_history.specs.Writes.{written}
use Rattle.desk_history.specs.declared.write.Write.TheVariants as writes
use Rattle.store_schema.specs.rows.Values.{call_values}
use Rattle.store_writes.proofs.RowLemmas.{call_in, call_params}
use Rattle.store_writes.proofs.StepLemmas.{puts_in}
use Rattle.store_writes.proofs.entering.put_call.Goals as goal

pub returns-clause-value : goal.returns-clause-value
returns-clause-value g c clean inside =
    let m = c.args.minute.now in
    puts_in 2 calls INSERT_CALL.now (values_of calls) (call_params m) (call_values m) (written (writes.Call m))
    (state g.S.Store c.args.tx.now.conn.now) (state g.S.Store c.insert.new.tx.conn.now) insert_call (call_in m) (λ t. refl)
    (rw (c.params-to_sql.ensures, c.params-to_sql-2.ensures, c.params-to_sql-3.ensures, c.params-to_sql-4.ensures, c.params-to_sql-5.ensures, c.in_ok-number.ensures.value, c.name.ensures, c.as_str.ensures.value, c.as_str-2.ensures, c.as_str-3.ensures.value, c.in-Ok.ensures) at (c.in_ok-insert.ensures.value clean inside))
