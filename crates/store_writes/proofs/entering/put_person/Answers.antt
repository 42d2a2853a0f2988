use Rattle.std.proofs.Common.{refl}
use Rattle.sqlite.specs.Held.{state}
use Rattle.store_schema.specs.Columns.{values_of}
use Rattle.store_schema.specs.Tables.{people}
use Rattle.store_schema.specs.declared.inserting.TheConstants.{INSERT_PERSON}
use Rattle.store_schema.proofs.InsertFacts.{insert_person}
use Rattle.desk_history.specs.Writes.{written}
use Rattle.desk_history.specs.declared.write.Write.TheVariants as writes
use Rattle.store_schema.specs.rows.Values.{person_values}
use Rattle.store_writes.proofs.RowLemmas.{person_in}
use Rattle.store_writes.proofs.StepLemmas.{puts_in}
use Rattle.store_writes.proofs.entering.put_person.Goals as goal

pub returns-clause-value : goal.returns-clause-value
returns-clause-value g c clean inside =
    let p = c.args.person.now in
    puts_in 1 people INSERT_PERSON.now (values_of people) (person_values p) (person_values p) (written (writes.Person p))
    (state g.S.Store c.args.tx.now.conn.now) (state g.S.Store c.insert.new.tx.conn.now) insert_person (person_in p) (λ t. refl)
    (rw (c.params-to_sql.ensures, c.params-to_sql-2.ensures, c.params-to_sql-3.ensures, c.as_str.ensures.value, c.text.ensures, c.as_bytes.ensures.value) at (c.in_ok-insert.ensures.value clean inside))
