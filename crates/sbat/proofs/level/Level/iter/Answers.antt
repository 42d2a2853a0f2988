use Rattle.std.proofs.Common.{◌∙◌, ap, sym}
use Rattle.std.specs.FinMap.{entries}
use Rattle.sbat.specs.Levels.{Stamped, byte_entries}
use Rattle.sbat.proofs.ViewLemmas.{entries_generations}
use Rattle.sbat.proofs.level.Level.iter.Goals as goal

pub returns-clause-exact : goal.returns-clause-exact
returns-clause-exact c =
    ap byte_entries c.iter.ensures.rest ∙ sym (entries_generations c.self.inside.names c.iter.ensures.ordered) ∙ ap (λ (l : Stamped). entries l.generations) c.self.view_is
