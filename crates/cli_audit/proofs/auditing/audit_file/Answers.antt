use Rattle.std.proofs.Common.{inl, inr}
use Rattle.std.proofs.KnownBytes.{Keeps-refl}
use Rattle.cli_audit.proofs.auditing.audit_file.Goals as goal

pub returns-in-Ok-clause-audited : goal.returns-in-Ok-clause-audited
returns-in-Ok-clause-audited g c = inr (c.in-Ok.file, c.audit_input.ensures.audited)

pub returns-in-Err-clause-audited : goal.returns-in-Err-clause-audited
returns-in-Err-clause-audited g c = inl (c.in-Err.ensures, Keeps-refl _)
