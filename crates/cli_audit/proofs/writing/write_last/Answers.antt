use Rattle.cli_audit.proofs.writing.write_last.Goals as goal

pub returns-clause-written : goal.returns-clause-written
returns-clause-written g c = (c.write_audit.new.desk, c.write_audit.ensures.written)
