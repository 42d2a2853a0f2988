use Rattle.std.proofs.Common.{◌≡◌, ◌≤◌, ◌-◌, IsTrue}
use Rattle.sqlite.specs.Held.{state}
use Rattle.sqlite.specs.State.{HasCleanDisk, Survives}
use Rattle.store_reads.specs.Reads.{ReadsTables}
use Rattle.store_shown.specs.Searching.{FindsAfter}
use Rattle.store_shown.proofs.searching.list_marked.Given as goal

abbrev pub invariant-loop-number : goal.invariant-loop-number
invariant-loop-number g l =
    let first = state g.S.Store l.fn.tx.conn.now in
    let now = state g.S.Store l.tx.conn.now in
    (l.number ≤ l.last) × (l.many ≤ l.most) × (l.tx.conn.ghost_name ≡ l.fn.tx.conn.ghost_name) × Survives first now (λ _. ⊥)
    × (HasCleanDisk now → IsTrue first.in_transaction → ReadsTables (λ t. FindsAfter l.choice l.reader t l.marks l.number l.many (g.L.RequestList.holds l.list)) first now)

abbrev pub decreases-loop-number : goal.decreases-loop-number
decreases-loop-number g l = l.last - l.number
