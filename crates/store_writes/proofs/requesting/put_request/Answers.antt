use Rattle.std.proofs.Common.{refl}
use Rattle.sqlite.specs.Held.{state}
use Rattle.store_schema.specs.Columns.{values_of}
use Rattle.store_schema.specs.Tables.{requests}
use Rattle.store_schema.specs.declared.inserting.TheConstants.{INSERT_REQUEST}
use Rattle.store_schema.proofs.InsertFacts.{insert_request}
use Rattle.desk_history.specs.Writes.{written}
use Rattle.desk_history.specs.declared.write.Write.TheVariants as writes
use Rattle.store_schema.specs.rows.Values.{request_values}
use Rattle.store_writes.proofs.RowLemmas.{request_in, request_params}
use Rattle.store_writes.proofs.StepLemmas.{puts_in}
use Rattle.store_writes.proofs.requesting.put_request.Goals as goal

pub returns-clause-value : goal.returns-clause-value
returns-clause-value g c clean inside =
    let r = c.args.request.now in
    puts_in 3 requests INSERT_REQUEST.now (values_of requests) (request_params r) (request_values r) (written (writes.Request r))
    (state g.S.Store c.args.tx.now.conn.now) (state g.S.Store c.insert.new.tx.conn.now) insert_request (request_in r) (λ t. refl)
    (rw (c.params-to_sql.ensures, c.params-to_sql-2.ensures, c.params-to_sql-3.ensures, c.params-to_sql-4.ensures, c.params-to_sql-5.ensures, c.params-to_sql-6.ensures, c.params-to_sql-7.ensures, c.params-to_sql-8.ensures, c.params-to_sql-9.ensures, c.in_ok-number.ensures.value, c.in_ok-length.ensures.value, c.in_ok-gap.ensures.value, c.value.ensures.value, c.as_str.ensures.value, c.as_str-2.ensures.value, c.as_bytes.ensures.value, c.as_bytes-2.ensures.value, c.as_bytes-3.ensures.value, c.text.ensures) at (c.in_ok-insert.ensures.value clean inside))
