use Rattle.std.proofs.Common.{refl}
use Rattle.sqlite.specs.Held.{state}
use Rattle.store_schema.specs.Columns.{values_of}
use Rattle.store_schema.specs.Tables.{returns}
use Rattle.store_schema.specs.declared.inserting.TheConstants.{INSERT_RETURN}
use Rattle.store_schema.proofs.InsertFacts.{insert_return}
use Rattle.desk_history.specs.Writes.{written}
use Rattle.desk_history.specs.declared.write.Write.TheVariants as writes
use Rattle.store_schema.specs.rows.Values.{return_values}
use Rattle.store_writes.proofs.RowLemmas.{return_in, return_params}
use Rattle.store_writes.proofs.StepLemmas.{puts_in}
use Rattle.store_writes.proofs.requesting.put_return.Goals as goal

pub returns-clause-value : goal.returns-clause-value
returns-clause-value g c clean inside =
    let r = c.args.returned.now in
    puts_in 7 returns INSERT_RETURN.now (values_of returns) (return_params r) (return_values r) (written (writes.Return r))
    (state g.S.Store c.args.tx.now.conn.now) (state g.S.Store c.insert.new.tx.conn.now) insert_return (return_in r) (λ t. refl)
    (rw (c.params-to_sql.ensures, c.params-to_sql-2.ensures, c.params-to_sql-3.ensures, c.params-to_sql-4.ensures, c.params-to_sql-5.ensures, c.in_ok-request.ensures.value, c.in_ok-length.ensures.value, c.value.ensures.value, c.as_str.ensures.value, c.as_bytes.ensures.value, c.as_bytes-2.ensures.value) at (c.in_ok-insert.ensures.value clean inside))
