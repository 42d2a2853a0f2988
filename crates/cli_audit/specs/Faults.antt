-- The rows of the table of refusals for an audit.
use Rattle.std.specs.Prelude.{◌≡◌, ◌⊎◌, ℕ, Some}
use Rattle.store_minutes.specs.declared.auditing.AuditFault.{AuditFault}
use Rattle.store_minutes.specs.declared.auditing.AuditFault.TheVariants.{Device, Line}
use Rattle.store_minutes.specs.Watches.{IsReadFault}
use Rattle.store_minutes.specs.declared.lines.LineWatch.{LineWatch}
use Rattle.base.specs.declared.refusal.Refusal.{Refusal}
use Rattle.base.specs.declared.refusal.Refusal.TheVariants as refusals
use Rattle.cli_output.specs.Faults.{IsFileRefusal, IsRow, row_of}
use Rattle.cli_output.specs.declared.fault.Fault.{Fault}

-- own: the row of a line of minutes that is wrong, by its number
abbrev pub wrong_line : ℕ → Fault
wrong_line n = record { refusal = refusals.Minute; place = Some n }

-- own: the row of a fault of an audit
abbrev pub of_audit : AuditFault → Fault
of_audit (Line n) = wrong_line n
of_audit (Device refusal) = row_of refusal

-- memory was refused, a read of the watch failed, or the writer failed
abbrev pub IsAuditRefusal : LineWatch → Refusal → Type 0
IsAuditRefusal watch refusal = IsReadFault watch refusal ⊎ (refusal ≡ refusals.Write)

-- a line is wrong, and the place is its number; or one of these refusals, without a place
abbrev pub IsAuditRow : LineWatch → Fault → Type 0
IsAuditRow watch fault = ((n : ℕ) × (fault ≡ wrong_line n)) ⊎ IsRow (IsAuditRefusal watch) fault

-- the minutes aren't opened
abbrev pub IsUnopenedRefusal : Refusal → Type 0
IsUnopenedRefusal = IsFileRefusal
