use Rattle.std.proofs.Common.{◌∷◌, [], pos, refl}
use Rattle.sqlite.specs.Held.{state}
use Rattle.sqlite.specs.declared.types.Value.TheVariants.{Int}
use Rattle.store_schema.specs.Columns.{values_of}
use Rattle.store_schema.specs.Tables.{migrated}
use Rattle.store_schema.specs.declared.inserting.TheConstants.{INSERT_MIGRATED}
use Rattle.store_schema.proofs.InsertFacts.{insert_migrated}
use Rattle.store_schema.specs.rows.Values.{migrated_values}
use Rattle.store_writes.specs.Steps.{with_migrated}
use Rattle.store_writes.proofs.RowLemmas.{migrated_in}
use Rattle.store_writes.proofs.StepLemmas.{puts_in}
use Rattle.store_writes.proofs.entering.put_migrated.Goals as goal

pub returns-clause-puts : goal.returns-clause-puts
returns-clause-puts g c clean inside =
    rw (c.params-to_sql.ensures, c.params-to_sql-2.ensures, c.in_ok-calls.ensures.value) at (c.in_ok-insert.ensures.value clean inside)

pub returns-clause-value : goal.returns-clause-value
returns-clause-value g c clean inside =
    let n = c.args.calls in
    puts_in 14 migrated INSERT_MIGRATED.now (values_of migrated) (Int (pos 1) ∷ Int (pos n) ∷ []) (migrated_values (record { id = 1; calls = n })) (with_migrated n)
    (state g.S.Store c.args.tx.now.conn.now) (state g.S.Store c.insert.new.tx.conn.now) insert_migrated (migrated_in n) (λ t. refl)
    (returns-clause-puts g c clean inside)
