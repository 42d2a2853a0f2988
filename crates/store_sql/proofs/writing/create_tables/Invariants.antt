use Rattle.std.proofs.Common.{◌≡◌, map, take, IsTrue}
use Rattle.sqlite.specs.Held.{state}
use Rattle.sqlite.specs.State.{HasCleanDisk, KeepsCommit, Survives}
use Rattle.store_sql.specs.Effects.{CreatesAll}
use Rattle.store_sql.proofs.writing.create_tables.Given as goal

abbrev pub invariant-loop-text : goal.invariant-loop-text
invariant-loop-text g l =
    let first = state g.S.Store l.fn.tx.conn.now in
    let now = state g.S.Store l.tx.conn.now in
    (l.tx.conn.ghost_name ≡ l.fn.tx.conn.ghost_name) × Survives first now (λ _. ⊥)
    × (HasCleanDisk now → IsTrue first.in_transaction → IsTrue now.in_transaction × KeepsCommit first now × CreatesAll (map (λ t. t.now) (take l.text-index l.texts)) first now)
