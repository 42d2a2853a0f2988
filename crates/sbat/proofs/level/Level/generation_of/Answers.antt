use Rattle.std.proofs.Common.{◌∙◌, ap, sym}
use Rattle.std.specs.BTreeMap.{get_by_text}
use Rattle.std.specs.FinMap.{get}
use Rattle.std.proofs.lemmas.Str.{IsUtf8-from_ascii}
use Rattle.sbat.specs.Levels.{Stamped}
use Rattle.sbat.proofs.FieldLemmas.{name_ascii}
use Rattle.sbat.proofs.ViewLemmas.{get_generations, no_generation}
use Rattle.sbat.proofs.level.Level.generation_of.Goals as goal

pub returns-in-Ok : goal.returns-in-Ok
returns-in-Ok c =
    let m = c.self.inside.names in
    c.copied.ensures
    ∙ c.get.ensures.value
    ∙ ap (get_by_text m) c.in-Ok.ensures.cases.0
    ∙ sym (get_generations m c.args.name.now)
    ∙ ap (λ (l : Stamped). get l.generations c.args.name.now) c.self.view_is

pub returns-in-Err : goal.returns-in-Err
returns-in-Err c =
    let q = c.args.name.now in
    no_generation _ q c.self.invariant (λ name. c.in-Err.ensures.cases.0 (IsUtf8-from_ascii q (name_ascii q name)))
    ∙ ap (λ (l : Stamped). get l.generations q) c.self.view_is
