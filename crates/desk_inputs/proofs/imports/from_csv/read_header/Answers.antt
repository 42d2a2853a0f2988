use Rattle.std.proofs.Common.{sym, ◌∙◌}
use Rattle.desk_inputs.proofs.CsvLemmas.{no_header, right_header, wrong_header}
use Rattle.desk_inputs.proofs.imports.from_csv.read_header.Goals as goal

pub returns-in-End-clause-err : goal.returns-in-End-clause-err
returns-in-End-clause-err c = no_header _ _ c.in-End.ensures

pub returns-then-not-is_header-clause-err : goal.returns-then-not-is_header-clause-err
returns-then-not-is_header-clause-err c = wrong_header _ _ _ _ c.in-Record.ensures (sym c.is_header.ensures ∙ c.if-not-is_header.true)

pub returns-clause-ok : goal.returns-clause-ok
returns-clause-ok c = right_header _ _ _ _ c.in-Record.ensures (sym c.is_header.ensures ∙ c.if-not-is_header.false)
