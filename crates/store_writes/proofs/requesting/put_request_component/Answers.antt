use Rattle.std.proofs.Common.{refl}
use Rattle.sqlite.specs.Held.{state}
use Rattle.store_schema.specs.Columns.{values_of}
use Rattle.store_schema.specs.Tables.{request_components}
use Rattle.store_schema.specs.declared.inserting.TheConstants.{INSERT_REQUEST_COMPONENT}
use Rattle.store_schema.proofs.InsertFacts.{insert_request_component}
use Rattle.desk_history.specs.Writes.{written}
use Rattle.desk_history.specs.declared.write.Write.TheVariants as writes
use Rattle.store_schema.specs.rows.Values.{request_component_values}
use Rattle.store_writes.proofs.RowLemmas.{request_component_in}
use Rattle.store_writes.proofs.StepLemmas.{puts_in}
use Rattle.store_writes.proofs.requesting.put_request_component.Goals as goal

pub returns-clause-value : goal.returns-clause-value
returns-clause-value g c clean inside =
    let r = c.args.component.now in
    puts_in 5 request_components INSERT_REQUEST_COMPONENT.now (values_of request_components) (request_component_values r) (request_component_values r) (written (writes.RequestComponent r))
    (state g.S.Store c.args.tx.now.conn.now) (state g.S.Store c.insert.new.tx.conn.now) insert_request_component (request_component_in r) (λ t. refl)
    (rw (c.params-to_sql.ensures, c.params-to_sql-2.ensures, c.params-to_sql-3.ensures, c.params-to_sql-4.ensures, c.in_ok-request.ensures.value, c.in_ok-place.ensures.value, c.value.ensures.value, c.as_str.ensures.value, c.value-2.ensures.value) at (c.in_ok-insert.ensures.value clean inside))
