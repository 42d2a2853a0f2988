use Rattle.std.proofs.Common.{◌≡◌, ◌≤◌, ◌-◌, ◌^◌, Some, length}
use Rattle.std.specs.Io.KnownBytes.{Consumes}
use Rattle.sqlite.specs.Held.{state}
use Rattle.sqlite.specs.State.{HasCleanDisk, Survives}
use Rattle.desk_exports.specs.MinutesShown.{first_lines}
use Rattle.store_desk.specs.Desks.{KeepsDesk}
use Rattle.store_minutes.specs.Starts.{Start}
use Rattle.store_minutes.specs.Comparing.{Begins}
use Rattle.store_minutes.proofs.comparing.compare.Given as goal

abbrev pub invariant-loop-calls : goal.invariant-loop-calls
invariant-loop-calls g l = record {
  spares : Survives (state g.S.Store l.initial.desk.conn) (state g.S.Store l.desk.conn) (λ _. ⊥);
  same : HasCleanDisk (state g.S.Store l.desk.conn) → KeepsDesk g.S.Store l.initial.desk l.desk;
  given : HasCleanDisk (state g.S.Store l.desk.conn) → (s : Start) → Begins g.S.Store l.initial.desk s (g.R.Read.remaining l.initial.reader)
      → Consumes (Some s.bytes) (g.R.Read.remaining l.reader) (first_lines s.earlier l.calls) × (l.calls ≤ length s.earlier);
  steady : l.watch ≡ l.initial.watch;
}

abbrev pub decreases-loop-calls : goal.decreases-loop-calls
decreases-loop-calls g l = 2 ^ 64 - l.calls
