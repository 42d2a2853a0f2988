use Rattle.desk_inputs.proofs.CsvLemmas.{found_none, found_one}
use Rattle.desk_inputs.proofs.imports.csv_rows.read_next.Goals as goal

pub returns-then-found : goal.returns-then-found
returns-then-found c = found_one _ _ _ _ c.in-Ok.ensures.ready (λ trim ready. rw c.if-found.true at (c.in-Ok.ensures.reads trim ready))

pub returns : goal.returns
returns c = found_none _ _ c.read_byte_record.new.self _ (λ trim ready. rw c.if-found.false at (c.in-Ok.ensures.reads trim ready))
