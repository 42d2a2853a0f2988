use Rattle.cli_audit.specs.Lines.{audit_lines}
use Rattle.cli_audit.proofs.WritingLemmas.{lines_written, nothing_written}
use Rattle.cli_audit.proofs.writing.say_told.Goals as goal

pub returns-in-Ok-clause-written : goal.returns-in-Ok-clause-written
returns-in-Ok-clause-written g c = λ clean.
    lines_written g.S.Store c.args.desk.now c.args.calls c.in-Ok.told _ _ c.say.result (c.in-Ok.ensures.exact clean) c.say.ensures.ok c.say.ensures.err

pub returns-in-Err-clause-written : goal.returns-in-Err-clause-written
returns-in-Err-clause-written g c = λ clean. nothing_written g.S.Store c.args.desk.now c.args.calls audit_lines _ c.from.result
