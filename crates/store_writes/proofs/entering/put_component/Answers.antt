use Rattle.std.proofs.Common.{refl}
use Rattle.sqlite.specs.Held.{state}
use Rattle.store_schema.specs.Columns.{values_of}
use Rattle.store_schema.specs.Tables.{components}
use Rattle.store_schema.specs.declared.inserting.TheConstants.{INSERT_COMPONENT}
use Rattle.store_schema.proofs.InsertFacts.{insert_component}
use Rattle.desk_history.specs.Writes.{written}
use Rattle.desk_history.specs.declared.write.Write.TheVariants as writes
use Rattle.store_schema.specs.rows.Values.{component_values}
use Rattle.store_writes.proofs.RowLemmas.{component_in}
use Rattle.store_writes.proofs.StepLemmas.{puts_in}
use Rattle.store_writes.proofs.entering.put_component.Goals as goal

pub returns-clause-value : goal.returns-clause-value
returns-clause-value g c clean inside =
    let x = c.args.component.now in
    puts_in 11 components INSERT_COMPONENT.now (values_of components) (component_values x) (component_values x) (written (writes.Component x))
    (state g.S.Store c.args.tx.now.conn.now) (state g.S.Store c.insert.new.tx.conn.now) insert_component (component_in x) (λ t. refl)
    (rw (c.params-to_sql.ensures, c.params-to_sql-2.ensures, c.as_str.ensures.value, c.value.ensures.value) at (c.in_ok-insert.ensures.value clean inside))
