use Rattle.std.proofs.Common.{rules}
use Rattle.pe_image.proofs.span_list.Ranges.of.Goals as goal

pub returns : goal.returns
returns c = search rules
