use Rattle.std.proofs.Common.{◌≡◌, ◌-◌, ◌^◌}
use Rattle.sqlite.specs.Held.{state}
use Rattle.sqlite.specs.State.{HasCleanDisk}
use Rattle.store_minutes.specs.Starts.{HasFollowedSecond}
use Rattle.store_minutes.specs.Starts.{Start}
use Rattle.store_minutes.proofs.auditing.follow_rest.Given as goal

abbrev pub invariant-loop-calls : goal.invariant-loop-calls
invariant-loop-calls g l = (HasCleanDisk (state g.S.Store l.desk.conn) → HasCleanDisk (state g.S.Store l.initial.desk.conn))
    × (HasCleanDisk (state g.S.Store l.desk.conn) → (s : Start) → HasFollowedSecond g.S.Store l.initial.desk s l.before (g.R.Read.remaining l.initial.reader)
    → HasFollowedSecond g.S.Store l.desk s l.calls (g.R.Read.remaining l.reader))
    × (l.watch ≡ l.initial.watch)

abbrev pub decreases-loop-calls : goal.decreases-loop-calls
decreases-loop-calls g l = 2 ^ 64 - l.calls
