use Rattle.std.proofs.Common.{◌≡◌, IsTrue}
use Rattle.sqlite.specs.Held.{state}
use Rattle.desk_history.specs.Calls.{is_among}
use Rattle.store_decision_rows.specs.lists.Gathering.{revocations_of}
use Rattle.store_decision_rows.proofs.GatherLemmas.{Gathered}
use Rattle.store_decision_rows.proofs.lists.gathering.gather_revoked.Given as goal

abbrev pub invariant-loop-digest : goal.invariant-loop-digest
invariant-loop-digest g l =
    let first = state g.S.Store l.fn.tx.conn.now in
    let now = state g.S.Store l.tx.conn.now in
    (l.tx.conn.ghost_name ≡ l.fn.tx.conn.ghost_name)
    × Gathered (revocations_of l.fn.kind) l.digests (λ x. IsTrue (is_among l.digests x)) l.fn.rows.items l.digest-index l.rows.items first now
