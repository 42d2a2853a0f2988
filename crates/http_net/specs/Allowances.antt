-- The time that a peer has.
use Rattle.std.specs.Prelude.{ℕ, ◌+◌, ◌-◌, ◌*◌, ◌/◌, ◌^◌, min, Option, None, Some}
use Rattle.std.specs.Time.{instant_nanos}
use Rattle.std.specs.declared.time.Instant.{Instant}
use Rattle.http_net.specs.declared.allowance.Allowance.{Allowance}

-- the rest, in nanoseconds, of this many seconds that began at an instant: 0 once they are over
abbrev pub nanos_left : (seconds begun now : ℕ) → ℕ
nanos_left seconds begun now = seconds * 1000000000 - (now - begun)

-- own: 30 seconds, and one more for each 64 KiB that came or went
abbrev pub seconds_for : ℕ → ℕ
seconds_for moved = 30 + moved / 65536

-- the rest of an allowance at an instant, in nanoseconds
abbrev pub left_of : Allowance → Instant → ℕ
left_of allowance now = nanos_left (seconds_for allowance.moved) (instant_nanos allowance.begun) (instant_nanos now)

-- the allowance at a call: it begins with the first one
abbrev pub at_call : Option Allowance → Instant → Allowance
at_call None now = record { begun = now; moved = 0 }
at_call (Some allowance) now = allowance

-- the allowance after this many more bytes came or went
abbrev pub counted : Allowance → ℕ → Allowance
counted allowance bytes = record { begun = allowance.begun; moved = min (allowance.moved + bytes) (2 ^ 64 - 1) }
