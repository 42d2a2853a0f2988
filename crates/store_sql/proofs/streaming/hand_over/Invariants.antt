use Rattle.std.proofs.Common.{◌≡◌, List, false}
use Rattle.sqlite.proofs.Callers.{IsPlain}
use Rattle.sqlite.specs.Given.{HasGiven}
use Rattle.sqlite.specs.Held.{state}
use Rattle.sqlite.specs.Listing.{understood}
use Rattle.sqlite.specs.Order.{Row}
use Rattle.sqlite.specs.State.{HasCleanDisk, IsUnchanged, Survives, CommitsShowing}
use Rattle.sqlite.specs.Values.{bound}
use Rattle.store_sql.specs.Effects.{TakesAll}
use Rattle.store_sql.proofs.streaming.hand_over.Given as goal

abbrev pub invariant-rows : goal.invariant-rows
invariant-rows g l =
    let old = state g.S.Store l.fn.conn in
    let now = state g.S.Store l.rows.conn.now in
    (l.rows.conn.ghost_name ≡ l.initial.rows.conn.ghost_name) × Survives old now (CommitsShowing l.fn.sql (bound l.fn.params) old)
    × (l.fn.conn.in_transaction ≡ false → l.rows.conn.now.in_transaction ≡ false)
    × ((given : List Row) × TakesAll g.T.TakesRow.takes l.fn.taker given l.taker
    × (HasCleanDisk now → IsPlain (understood old.now.schema l.fn.sql) → HasGiven g.S.Store l.fn.sql (bound l.fn.params) l.rows.conn.now given × IsUnchanged old now))
