use Rattle.std.proofs.Common.{◌∙◌}
use Rattle.std.proofs.Math.Logic.{∥∥₁_elim}
use Rattle.std.proofs.Props.{props}
use Rattle.cli_audit.proofs.hashing.Hashing.digest.Goals as goal

pub returns : goal.returns
returns c = c.from.ensures ∙ ∥∥₁_elim c.args.self.holds (search props) (λ h. c.finalize.ensures c.args.self.fed.bytes h)
