use Rattle.std.proofs.Common.{◌∙◌}
use Rattle.desk_rules.proofs.ImportDigests.{found_same}
use Rattle.desk_rules.proofs.entries.holds.Goals as goal

pub returns : goal.returns
returns c = c.contains.ensures ∙ found_same c.args.digest c.args.digests.now.keys
