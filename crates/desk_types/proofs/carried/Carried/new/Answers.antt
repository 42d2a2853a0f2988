use Rattle.std.proofs.Common.{rules}
use Rattle.desk_types.proofs.carried.Carried.new.Goals as goal

pub of-requires-clause-ascending : goal.of-requires-clause-ascending
of-requires-clause-ascending c = search rules

pub returns : goal.returns
returns c = search rules
