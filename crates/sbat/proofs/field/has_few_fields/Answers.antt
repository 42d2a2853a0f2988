use Rattle.std.proofs.Common.{arith}
use Rattle.std.proofs.lemmas.Bool.Decides.{nat_tests}
use Rattle.std.proofs.lemmas.List.Splits.{length-slice_split}
use Rattle.sbat.specs.Fields.{is_comma}
use Rattle.sbat.proofs.field.has_few_fields.Goals as goal

pub returns : goal.returns
returns c = grind (arith, nat_tests, length-slice_split is_comma c.args.line.now, c.count_commas.ensures)
