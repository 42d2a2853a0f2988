use Rattle.std.proofs.Common.{◌≡◌, ◌≤◌, drop, length, IsTrue}
use Rattle.sqlite.specs.Held.{state}
use Rattle.sqlite.specs.State.{HasCleanDisk, Survives}
use Rattle.store_sql.specs.States.{Turns}
use Rattle.store_schema.specs.Tables.{desk_layout}
use Rattle.desk_history.specs.Items.{items_from, items_of}
use Rattle.store_schema.specs.rows.Contents.{contents}
use Rattle.store_writes.specs.Steps.{contents_with}
use Rattle.store_writes.proofs.proposing.put_items.Given as goal

abbrev pub invariant-loop-place : goal.invariant-loop-place
invariant-loop-place g l =
    let first = state g.S.Store l.fn.tx.conn.now in
    let now = state g.S.Store l.tx.conn.now in
    let all = items_of l.named in
    (l.place ≤ length all) × (l.tx.conn.ghost_name ≡ l.fn.tx.conn.ghost_name) × Survives first now (λ _. ⊥)
    × (HasCleanDisk now → IsTrue first.in_transaction → Turns desk_layout contents (contents_with (items_from l.proposal l.place (drop l.place all))) first now)

abbrev pub decreases-loop-place : goal.decreases-loop-place
decreases-loop-place g l = l.place
