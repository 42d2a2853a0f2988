use Rattle.desk_inputs.specs.imports.FromCsv.{records_of}
use Rattle.desk_inputs.proofs.CsvLemmas.{IsCsvImport-given, too_many}
use Rattle.desk_inputs.proofs.imports.from_csv.import_csv.Goals as goal

pub returns-in-Some-clause-exact : goal.returns-in-Some-clause-exact
returns-in-Some-clause-exact c =
    IsCsvImport-given _ _ _ _ (c.in-Ok.ensures.ok (records_of c.args.text.now) c.rows_of-reader.ensures) c.in-Some.ensures

pub returns-clause-first : goal.returns-clause-first
returns-clause-first c = too_many _ _ (c.in-Ok.ensures.ok (records_of c.args.text.now) c.rows_of-reader.ensures) c.in-None.ensures
