use Rattle.std.proofs.Common.{List, Some}
use Rattle.desk_inputs.specs.imports.FromCsv.{Record}
use Rattle.desk_inputs.specs.imports.Records.{Leaves}
use Rattle.desk_inputs.proofs.CsvLemmas.{Reading}
use Rattle.desk_inputs.proofs.imports.from_csv.gather.Given as goal

abbrev pub invariant-loop-number : goal.invariant-loop-number
invariant-loop-number l = (rows : List Record) → Leaves (λ s. Some s.now) l.fn.reader rows → Reading (λ s. Some s.now) rows l.number l.reader l.gathered
