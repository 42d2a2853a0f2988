use Rattle.std.proofs.Common.{◌∙◌, ap, sym}
use Rattle.std.specs.FinMap.{len}
use Rattle.sbat.specs.Levels.{Stamped}
use Rattle.sbat.proofs.ViewLemmas.{len_generations}
use Rattle.sbat.proofs.level.Level.len.Goals as goal

pub returns-clause-exact : goal.returns-clause-exact
returns-clause-exact c =
    c.len.ensures.len ∙ sym (len_generations c.self.inside.names c.len.ensures.ordered) ∙ ap (λ (l : Stamped). len l.generations) c.self.view_is
