use Rattle.std.proofs.Common.{rules}
use Rattle.siglist.proofs.packing.read_digests.Goals as goal

pub returns-in-Err-clause-line : goal.returns-in-Err-clause-line
returns-in-Err-clause-line c = search rules
