use Rattle.std.proofs.Common.{◌≡◌, IsTrue, map}
use Rattle.sqlite.specs.Held.{state}
use Rattle.desk_history.specs.Calls.{is_among}
use Rattle.store_decision_rows.specs.lists.Gathering.{levels_of}
use Rattle.store_decision_rows.proofs.GatherLemmas.{Gathered}
use Rattle.store_decision_rows.proofs.lists.gathering.gather_components.Given as goal

abbrev pub invariant-loop-component : goal.invariant-loop-component
invariant-loop-component g l =
    let first = state g.S.Store l.fn.tx.conn.now in
    let now = state g.S.Store l.tx.conn.now in
    (l.tx.conn.ghost_name ≡ l.fn.tx.conn.ghost_name)
    × Gathered levels_of l.named (λ x. IsTrue (is_among (map (λ y. y.name) l.named) x.name)) l.fn.rows.items l.component-index l.rows.items first now
