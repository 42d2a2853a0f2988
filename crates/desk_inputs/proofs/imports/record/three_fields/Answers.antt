use Rattle.std.proofs.Common.{◌∙◌, sym, arith}
use Rattle.csv.proofs.RecordFacts.{field-there}
use Rattle.csv.specs.Records.{fields_of}
use Rattle.desk_inputs.proofs.RecordLemmas.{three}
use Rattle.desk_inputs.proofs.imports.record.three_fields.Goals as goal

-- a record of three fields has each of them
pub returns-in_default : goal.returns-in_default
returns-in_default c = absurd (field-there (fields_of c.args.row.now) 0 (omega (arith, c.len.ensures, c.if-len-ne3.false)) (sym c.in_default.ensures.value))

pub returns-in_default-get : goal.returns-in_default-get
returns-in_default-get c =
    absurd (field-there (fields_of c.args.row.now) 1 (omega (arith, c.len.ensures, c.if-len-ne3.false)) (sym c.in_default-get.ensures.value))

pub returns-in_default-get-2 : goal.returns-in_default-get-2
returns-in_default-get-2 c =
    absurd (field-there (fields_of c.args.row.now) 2 (omega (arith, c.len.ensures, c.if-len-ne3.false)) (sym c.in_default-get-2.ensures.value))

pub returns : goal.returns
returns c =
    three (fields_of c.args.row.now) _ _ _ (sym c.len.ensures ∙ c.if-len-ne3.false) c.in-Some.ensures.value c.in-Some-get.ensures.value c.in-Some-get-2.ensures.value
