use Rattle.std.proofs.Common.{rules}
use Rattle.pe_image.proofs.extent.Extent.new.Goals as goal

pub of-requires-clause-inside : goal.of-requires-clause-inside
of-requires-clause-inside c = search rules

pub of-requires-clause-few : goal.of-requires-clause-few
of-requires-clause-few c = search rules
