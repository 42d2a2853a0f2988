use Rattle.std.proofs.Common.{◌∷◌, refl}
use Rattle.std.specs.Prelude.{⊤}
use Rattle.sqlite.specs.Held.{state}
use Rattle.store_sql.specs.Contents.{change_at, no_rows}
use Rattle.store_sql.proofs.ItemLemmas.{turns}
use Rattle.store_schema.specs.Columns.{values_of}
use Rattle.store_schema.specs.Tables.{desk, desk_layout, desk_schema}
use Rattle.store_schema.proofs.InsertFacts.{insert_desk}
use Rattle.store_schema.specs.rows.Contents.{contents}
use Rattle.store_schema.specs.rows.Values.{desk_values}
use Rattle.store_writes.specs.Steps.{unmigrated}
use Rattle.store_writes.proofs.RowLemmas.{desk_in}
use Rattle.store_writes.proofs.entering.put_own.Goals as goal

pub returns-clause-puts : goal.returns-clause-puts
returns-clause-puts g c clean inside =
    rw (c.params-to_sql.ensures, c.params-to_sql-2.ensures, c.params-to_sql-3.ensures, c.params-to_sql-4.ensures, c.params-to_sql-5.ensures, c.in_ok-stamp.ensures.value, c.value.ensures.value, c.original.ensures, c.as_bytes.ensures.value) at (c.in_ok-insert.ensures.value clean inside)

pub returns-clause-value : goal.returns-clause-value
returns-clause-value g c clean inside =
    let owner = c.args.owner.now in
    let row = desk_values (unmigrated owner).desk in
    turns desk_layout (λ (_ : ⊤). no_rows desk_schema.tables) (λ _. contents (unmigrated owner)) (change_at 0 (λ rows. row ∷ rows))
    (state g.S.Store c.args.tx.now.conn.now) (state g.S.Store c.insert.new.tx.conn.now)
    (returns-clause-puts g c clean inside desk_layout 0 desk (values_of desk) row insert_desk (desk_in owner))
    (λ _. refl)
