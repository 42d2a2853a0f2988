use Rattle.std.proofs.Common.{sym, subst}
use Rattle.store_decision_rows.specs.sizes.Sizes as spec
use Rattle.store_decision_rows.proofs.SizeLemmas.{follows}
use Rattle.store_decision_rows.proofs.sizes.known.KnownSizes.after.Goals as goal

pub returns : goal.returns
returns c =
    subst (λ k. spec.Follows c.args.self.now c.args.command.now c.args.writes.now k) (sym c.next.ensures)
    (follows c.args.self.now c.args.command.now c.args.writes.now)
