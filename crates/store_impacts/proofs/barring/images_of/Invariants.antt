use Rattle.std.proofs.Common.{◌≡◌, ◌<◌, take, IsTrue}
use Rattle.sqlite.specs.Held.{state}
use Rattle.sqlite.specs.State.{HasCleanDisk, Survives}
use Rattle.store_shown.specs.Telling.{TellsOf}
use Rattle.store_impacts.specs.Barring.{AreBarred}
use Rattle.store_impacts.proofs.barring.images_of.Given as goal

abbrev pub invariant-loop-image : goal.invariant-loop-image
invariant-loop-image g l =
    let first = state g.S.Store l.fn.tx.conn.now in
    let now = state g.S.Store l.tx.conn.now in
    (l.tx.conn.ghost_name ≡ l.fn.tx.conn.ghost_name) × Survives first now (λ _. ⊥)
    × (HasCleanDisk now → IsTrue first.in_transaction
    → TellsOf (AreBarred (g.E.Standing.standing l.entries) (take l.image-index l.touched) l.found.items) first now)
    × (0 < l.image-index → HasCleanDisk now → IsTrue first.in_transaction → IsTrue now.is_open × IsTrue now.in_transaction)
