use Rattle.std.proofs.Common.{◌≡◌, ◌<◌, IsTrue}
use Rattle.sqlite.specs.Held.{state}
use Rattle.sqlite.specs.State.{HasCleanDisk}
use Rattle.desk_history.specs.Calls.{is_among}
use Rattle.store_decision_rows.specs.lists.Gathering.{listings_of}
use Rattle.store_decision_rows.proofs.GatherLemmas.{Gathered}
use Rattle.store_decision_rows.proofs.lists.gathering.gather_listed.Given as goal

abbrev pub invariant-loop-digest : goal.invariant-loop-digest
invariant-loop-digest g l =
    let first = state g.S.Store l.fn.tx.conn.now in
    let now = state g.S.Store l.tx.conn.now in
    (l.tx.conn.ghost_name ≡ l.fn.tx.conn.ghost_name)
    × Gathered (listings_of l.fn.kind) l.digests (λ x. (x.kind ≡ l.fn.kind) × IsTrue (is_among l.digests x.digest)) l.fn.rows.items l.digest-index l.rows.items first now
    × (HasCleanDisk now → IsTrue first.in_transaction → 0 < l.digest-index → IsTrue now.is_open)
