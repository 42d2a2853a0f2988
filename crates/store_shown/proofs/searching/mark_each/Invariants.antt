use Rattle.std.proofs.Common.{◌≡◌, All, take, IsTrue}
use Rattle.sqlite.specs.Held.{state}
use Rattle.sqlite.specs.State.{HasCleanDisk, Survives}
use Rattle.store_reads.specs.Reads.{ReadsTables}
use Rattle.store_shown.specs.Searching.{MarksColumn}
use Rattle.store_shown.proofs.searching.mark_each.Given as goal

abbrev pub invariant-loop-column : goal.invariant-loop-column
invariant-loop-column g l =
    let first = state g.S.Store l.fn.tx.conn.now in
    let now = state g.S.Store l.tx.conn.now in
    (l.tx.conn.ghost_name ≡ l.fn.tx.conn.ghost_name) × Survives first now (λ _. ⊥)
    × (HasCleanDisk now → IsTrue first.in_transaction → ReadsTables (λ t. All (MarksColumn l.digest l.marks.items t) (take l.column-index l.columns)) first now)
