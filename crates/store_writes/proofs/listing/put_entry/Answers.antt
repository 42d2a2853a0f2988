use Rattle.std.proofs.Common.{refl}
use Rattle.sqlite.specs.Held.{state}
use Rattle.store_schema.specs.Columns.{values_of}
use Rattle.store_schema.specs.Tables.{listed}
use Rattle.store_schema.specs.declared.inserting.TheConstants.{INSERT_LISTED}
use Rattle.store_schema.proofs.InsertFacts.{insert_listed}
use Rattle.desk_history.specs.Writes.{written}
use Rattle.desk_history.specs.declared.write.Write.TheVariants as writes
use Rattle.store_schema.specs.rows.Values.{entry_values}
use Rattle.store_writes.proofs.RowLemmas.{entry_in}
use Rattle.store_writes.proofs.StepLemmas.{puts_in}
use Rattle.store_writes.proofs.listing.put_entry.Goals as goal

pub returns-clause-value : goal.returns-clause-value
returns-clause-value g c clean inside =
    let e = c.args.entry.now in
    puts_in 8 listed INSERT_LISTED.now (values_of listed) (entry_values e) (entry_values e) (written (writes.List e))
    (state g.S.Store c.args.tx.now.conn.now) (state g.S.Store c.insert.new.tx.conn.now) insert_listed (entry_in e) (λ t. refl)
    (rw (c.params-to_sql.ensures, c.params-to_sql-2.ensures, c.params-to_sql-3.ensures, c.text.ensures, c.as_bytes.ensures.value, c.as_slice.ensures) at (c.in_ok-insert.ensures.value clean inside))
