-- Why minutes aren't followed.
use Rattle.std.specs.Prelude.{◌≡◌, ◌⊎◌, ⊤}
use Rattle.base.specs.declared.refusal.Refusal.{Refusal}
use Rattle.base.specs.declared.refusal.Refusal.TheVariants as refusals
use Rattle.store_reads.specs.Failures.{IsFailure}
use Rattle.store_minutes.specs.Watches.{IsReadFault}
use Rattle.store_minutes.specs.declared.auditing.AuditFault.{AuditFault}
use Rattle.store_minutes.specs.declared.auditing.AuditFault.TheVariants as audits
use Rattle.store_minutes.specs.declared.following.FollowFault.{FollowFault}
use Rattle.store_minutes.specs.declared.following.FollowFault.TheVariants as follows
use Rattle.store_minutes.specs.declared.lines.LineWatch.{LineWatch}

-- a device failed a desk, or had failed it before
abbrev pub IsDeskFailure : Refusal → Type 0
IsDeskFailure refusal = (refusal ≡ refusals.Reopen) ⊎ IsFailure refusal

-- the line is wrong, or a device failed the desk
abbrev pub IsFollowFault : FollowFault → Type 0
IsFollowFault follows.Line = ⊤
IsFollowFault (follows.Device refusal) = IsDeskFailure refusal

-- a line is wrong, or a device failed the desk or a read of the watch
abbrev pub IsCaused : LineWatch → AuditFault → Type 0
IsCaused watch (audits.Line number) = ⊤
IsCaused watch (audits.Device refusal) = IsDeskFailure refusal ⊎ IsReadFault watch refusal
