use Rattle.std.proofs.Common.{subst}
use Rattle.cli_audit.specs.Audits.{Audits}
use Rattle.cli_audit.proofs.AuditLemmas.{buffered, unread}
use Rattle.cli_audit.proofs.auditing.audit_input.Goals as goal

pub returns-in-Ok-clause-audited : goal.returns-in-Ok-clause-audited
returns-in-Ok-clause-audited g c =
    subst (λ known. Audits c.args.what c.args.owner.now known (g.W.Write.contents c.args.writer.now) (g.W.Write.contents c.audit_reader.new.writer) c.audit_reader.new.watch c.audit_reader.result)
    (buffered g.R.Read.remaining c.in-Ok.reader c.args.reader c.in-Ok.ensures.inner c.in-Ok.ensures.empty c.in-Ok.ensures.capacity)
    c.audit_reader.ensures.audited

pub returns-in-Err-clause-audited : goal.returns-in-Err-clause-audited
returns-in-Err-clause-audited g c =
    unread c.args.what c.args.owner.now _ _ c.args.watch.now c.from.result c.from.ensures
