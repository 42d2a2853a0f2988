use Rattle.std.proofs.Common.{◌≡◌, ◌<◌, ◌≤◌, ◌-◌, IsTrue}
use Rattle.sqlite.specs.Held.{state}
use Rattle.sqlite.specs.State.{HasCleanDisk, Survives}
use Rattle.store_reads.specs.Reads.{ReadsTables}
use Rattle.store_shown.specs.Lines.{HasFirst}
use Rattle.store_shown.proofs.minute_lines.lines_after.Given as goal

abbrev pub invariant-loop-lines : goal.invariant-loop-lines
invariant-loop-lines g l =
    let first = state g.S.Store l.fn.tx.conn.now in
    let now = state g.S.Store l.tx.conn.now in
    (l.lines ≤ 1000) × (l.tx.conn.ghost_name ≡ l.fn.tx.conn.ghost_name) × Survives first now (λ _. ⊥)
    × (HasCleanDisk now → IsTrue first.in_transaction → ReadsTables (λ t. HasFirst t l.calls l.lines l.text.items) first now)
    × (0 < l.lines → HasCleanDisk now → IsTrue first.in_transaction → IsTrue now.is_open × IsTrue now.in_transaction)

abbrev pub decreases-loop-lines : goal.decreases-loop-lines
decreases-loop-lines g l = 1000 - l.lines
