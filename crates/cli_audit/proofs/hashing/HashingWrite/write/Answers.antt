use Rattle.std.proofs.Common.{subst, sym}
use Rattle.std.proofs.Math.Logic.{∥∥₁_map}
use Rattle.sha2.specs.Hashers.{Holds256}
use Rattle.cli_audit.proofs.hashing.HashingWrite.write.Goals as goal

pub invariant_of-self : goal.invariant_of-self
invariant_of-self c = record {
  holds = ∥∥₁_map c.args.self.now.holds
      (λ h. subst (Holds256 c.update.new.self) (sym c.and-self.ensures) (c.update.ensures c.args.self.now.fed.bytes h));
}
