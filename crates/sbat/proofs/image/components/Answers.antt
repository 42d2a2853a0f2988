use Rattle.std.proofs.Common.{◌≤◌, ◌∙◌, Ok, ap, length, sym, rules}
use Rattle.base.specs.Limits.{most_components}
use Rattle.base.specs.Lines.{line_of}
use Rattle.sbat.proofs.RowLemmas.{Reading-ends, Reading-long, Reading-next}
use Rattle.sbat.proofs.image.components.Goals as goal

pub loop-line-preserved : goal.loop-line-preserved
loop-line-preserved c =
    Reading-next _ _ (line_of c.in-Some.line) _ _ _ _ (search rules) c.loop-line.invariant c.in-Some.ensures.steps c.in-Ok.ensures.ok

pub returns-in-None-new-clause-first : goal.returns-in-None-new-clause-first
returns-in-None-new-clause-first c =
    Reading-long _ _ _ c.loop-line.invariant c.in-None.ensures.steps.0 (search rules)

pub returns-in-Some-new-clause-exact : goal.returns-in-Some-new-clause-exact
returns-in-Some-new-clause-exact c =
    let few : length c.in-Some-new.components ≤ most_components = search rules in
    (Reading-ends _ _ _ c.loop-line.invariant c.in-None.ensures.steps.0 (search rules) ∙ ap Ok (sym c.in-Some-new.ensures), few)
