use Rattle.std.proofs.Common.{◌≡◌, take, IsTrue}
use Rattle.sqlite.specs.Held.{state}
use Rattle.sqlite.specs.State.{HasCleanDisk, Survives}
use Rattle.store_sql.specs.States.{Changes}
use Rattle.store_schema.specs.Tables.{desk_layout}
use Rattle.desk_history.specs.Writes.{all_written}
use Rattle.store_schema.specs.rows.Contents.{contents}
use Rattle.store_writes.proofs.writing.write_all.Given as goal

abbrev pub invariant-loop-row : goal.invariant-loop-row
invariant-loop-row g l =
    let first = state g.S.Store l.fn.tx.conn.now in
    let now = state g.S.Store l.tx.conn.now in
    (l.tx.conn.ghost_name ≡ l.fn.tx.conn.ghost_name) × Survives first now (λ _. ⊥)
    × (HasCleanDisk now → IsTrue first.in_transaction → Changes desk_layout contents first now (all_written (take l.row-index l.rows)))
