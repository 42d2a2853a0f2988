use Rattle.std.proofs.Common.{eqb, sym}
use Rattle.sbat.proofs.FieldLemmas.{before_first-found, before_first-none}
use Rattle.sbat.proofs.text.before_zero.Goals as goal

pub returns-in-Some : goal.returns-in-Some
returns-in-Some c = sym (before_first-found (λ b. eqb b 0) _ _ (sym c.in-Some.ensures))

pub returns-in-None : goal.returns-in-None
returns-in-None c = sym (before_first-none (λ b. eqb b 0) _ (sym c.in-None.ensures))
