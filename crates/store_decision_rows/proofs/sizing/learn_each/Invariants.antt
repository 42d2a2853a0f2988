use Rattle.std.proofs.Common.{◌≡◌, take, IsTrue}
use Rattle.sqlite.specs.Held.{state}
use Rattle.sqlite.specs.State.{HasCleanDisk, Survives}
use Rattle.store_reads.specs.Reads.{ReadsTables}
use Rattle.store_decision_rows.specs.sizes.Sizes.{AreRight}
use Rattle.store_decision_rows.specs.Steps.{LearnsOf}
use Rattle.store_decision_rows.proofs.sizing.learn_each.Given as goal

abbrev pub invariant-loop-table : goal.invariant-loop-table
invariant-loop-table g l =
    let first = state g.S.Store l.fn.tx.conn.now in
    let now = state g.S.Store l.tx.conn.now in
    (l.tx.conn.ghost_name ≡ l.fn.tx.conn.ghost_name) × Survives first now (λ _. ⊥)
    × (HasCleanDisk now → IsTrue first.in_transaction → ReadsTables (λ t. AreRight l.fn.sizes t → AreRight l.known t) first now)
    × LearnsOf (take l.table-index l.tables) l.command l.fn.sizes l.known
