-- Why minutes aren't followed in memory.
use Rattle.std.specs.Prelude.{⊤}
use Rattle.store_minutes.specs.Watches.{IsReadFault}
use Rattle.store_minutes.specs.declared.auditing.AuditFault.{AuditFault}
use Rattle.store_minutes.specs.declared.auditing.AuditFault.TheVariants as audits
use Rattle.store_minutes.specs.declared.lines.LineWatch.{LineWatch}

-- a line is wrong, or, on a desk in memory, memory was refused or a read of the watch failed
abbrev pub IsCausedInMemory : LineWatch → AuditFault → Type 0
IsCausedInMemory watch (audits.Line number) = ⊤
IsCausedInMemory watch (audits.Device refusal) = IsReadFault watch refusal
