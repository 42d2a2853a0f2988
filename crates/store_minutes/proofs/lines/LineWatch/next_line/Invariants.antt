use Rattle.std.proofs.Common.{◌≡◌, ◌≢◌, ◌-◌, ◌^◌, All, length}
use Rattle.std.specs.Io.KnownBytes.{Consumes}
use Rattle.store_minutes.proofs.lines.LineWatch.next_line.Given as goal

abbrev pub invariant-loop-self : goal.invariant-loop-self
invariant-loop-self g l = (l.self ≡ l.initial.self) × Consumes (g.R.Read.remaining l.initial.reader) (g.R.Read.remaining l.reader) l.line.items
    × All (λ byte. byte ≢ 10) l.line.items

abbrev pub decreases-loop-self : goal.decreases-loop-self
decreases-loop-self g l = 2 ^ 64 - length l.line.items
