use Rattle.std.proofs.Common.{Ok, Err}
use Rattle.cli_audit.proofs.AuditLemmas.{followed, kept_in_memory, stopped_by}
use Rattle.cli_audit.proofs.auditing.audit_reader.Goals as goal

pub returns-in-Ok-write_last-clause-audited : goal.returns-in-Ok-write_last-clause-audited
returns-in-Ok-write_last-clause-audited g c =
    followed c.args.what c.args.owner.now c.in-Ok.audited.desk c.in-Ok.audited.calls _ _ _ c.audit.new.watch (Ok tt)
    c.in-Ok.ensures.ok c.in-Ok-write_last.ensures.written tt (λ lines. tt)

pub returns-in-Err-write_last-clause-audited : goal.returns-in-Err-write_last-clause-audited
returns-in-Err-write_last-clause-audited g c =
    followed c.args.what c.args.owner.now c.in-Ok.audited.desk c.in-Ok.audited.calls _ _ _ c.audit.new.watch (Err c.row_in_memory.result)
    c.in-Ok.ensures.ok c.in-Err-write_last.ensures.written (c.row_in_memory.ensures.named c.in-Err-write_last.ensures.named c.audit.new.watch)
    (λ lines. kept_in_memory g.W.Write.contents c.args.writer.now c.write_last.new.writer c.in-Err-write_last.fault c.row_in_memory.result c.row_in_memory.ensures.write
    (c.in-Err-write_last.ensures.unwritten lines))

pub returns-in-Err-clause-audited : goal.returns-in-Err-clause-audited
returns-in-Err-clause-audited g c =
    stopped_by c.args.what c.args.owner.now _ _ c.audit.new.watch c.in-Err.fault c.fault_row.result c.fault_row.ensures c.in-Err.ensures.wrong c.in-Err.ensures.passes c.in-Err.ensures.named
