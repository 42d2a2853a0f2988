use Rattle.std.proofs.Common.{rules}
use Rattle.sbat.proofs.ViewLemmas.{IsLevel-after}
use Rattle.sbat.proofs.level.Level.raise.Goals as goal

pub invariant_of-self : goal.invariant_of-self
invariant_of-self c =
    IsLevel-after c.raise_name.result c.self.inside.stamp c.self.inside.names.entries c.raise_name.new.names.entries _
    c.raise_name.ensures.ok c.raise_name.ensures.err (rw c.into_string-name.ensures.value c.into_string-name.ensures.form)
    (search rules)
    c.raise_name.ensures.range c.self.invariant
